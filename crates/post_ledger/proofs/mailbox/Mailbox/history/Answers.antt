-- The history is read from its first event on.
use Rattle.std.proofs.Common.{refl, subst}
use Rattle.post_ledger.specs.History.{IsLegal}
use Rattle.post_ledger.proofs.mailbox.Mailbox.history.Goals as goal

pub returns-clause-all : goal.returns-clause-all
returns-clause-all g c = refl

pub returns-clause-legal : goal.returns-clause-legal
returns-clause-legal g c = subst IsLegal c.self.view_is c.self.invariant.counts.history.legal
