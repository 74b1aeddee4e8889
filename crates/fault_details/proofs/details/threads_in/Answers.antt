-- The tokens are those of the text.
use Rattle.std.proofs.Common.{inl}
use Rattle.fault_details.proofs.details.threads_in.Goals as goal

pub returns-in-Ok-Some : goal.returns-in-Ok-Some
returns-in-Ok-Some g c =
    inl (
      _,
      (rw c.in-Ok-Some.field-0-is at c.in-Ok-Some.ensures),
      (rw c.as_slice.ensures.value at c.count.ensures.value),
    )
