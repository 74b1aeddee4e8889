-- Messages and the procedures that they go to.
use Rattle.std.specs.Prelude.{ℕ, List, take}
use Rattle.flow_graph.specs.declared.exit.Exit.{Exit}
use Rattle.summaries.specs.declared.due.Due.{Due}
use Rattle.summaries.specs.declared.due.Due.TheVariants.{Summary}
use Rattle.summaries.specs.declared.outbox.Outbox.{Outbox}
use Rattle.summaries.specs.declared.outbox.Outgoing.{Outgoing}

-- a message and the procedure that it goes to
pub record AddressedMail : Type 0 where
  pub to : ℕ
  pub due : Due

-- the message to a procedure
abbrev pub mail : ℕ → Due → AddressedMail
mail to due = record { to = to; due = due }

-- the message that the procedure, if it was entered with this valuation, has left this
abbrev pub summary_due : ℕ → ℕ → Exit → Due
summary_due procedure entry left = Summary procedure left.result entry left.globals

-- the messages given that are answered, in order
abbrev pub answered_in : {Alloc : Type 0} → Outbox Alloc → List Outgoing
answered_in given = take given.answered given.sent.items
