-- There are as many events as steps.
use Rattle.std.proofs.Common.{length, ap, arith}
use Rattle.std.proofs.lemmas.List.{length-map}
use Rattle.post_ledger.specs.Kept.{numbered_of}
use Rattle.post_ledger.proofs.Keeping.{as_many}
use Rattle.post_ledger.proofs.mailbox.Mailbox.len.Goals as goal

pub returns : goal.returns
returns g c =
    omega (arith, as_many _ _ c.self.invariant.counts.numbered, length-map c.self.inside.steps.items numbered_of, ap length c.self.view_is)
