-- An empty mailbox keeps its counts.
use Rattle.std.proofs.Common.{length, map, ap, ap₂, sym, arith}
use Rattle.std.specs.Vec.{vec_capacity}
use Rattle.post_ledger.specs.Kept.{numbered_of, posted_of}
use Rattle.post_ledger.proofs.Keeping.{counts_fields, counts_new}
use Rattle.post_ledger.proofs.mailbox.Mailbox.new.Goals as goal

pub invariant_of-result : goal.invariant_of-result
invariant_of-result g c =
    counts_fields c.new.result.items c.new-2.result.items (vec_capacity c.new-2.result)
    (ap₂ posted_of c.new.ensures.items c.new-2.ensures.items) (ap (map numbered_of) c.new-2.ensures.items) (omega arith)
    (sym (ap length c.new.ensures.items)) (counts_new 0)
