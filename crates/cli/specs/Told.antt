-- What standard error says about a text.
use Rattle.std.specs.Prelude.{ℕ, List, Option}
use Rattle.orders.specs.declared.order.Order.{Order}
use Rattle.refusals.specs.Explained.{Explains}
use Rattle.refusals.specs.declared.refusal.Refusal.{Refusal}
use Rattle.streams.specs.Replied as replied

-- The message explains why this text gets no verdict, or says that memory ran out for it.
abbrev pub IsExplanation : List ℕ → List ℕ → Order → Refusal → List ℕ → Type 0
IsExplanation path text order why message = replied.IsExplanation Explains path text order why message

-- The message explains why this text gets no verdict, if it gets none, and otherwise it is empty.
abbrev pub IsMessage : List ℕ → List ℕ → Order → Option Refusal → List ℕ → Type 0
IsMessage path text order why message = replied.IsMessage Explains path text order why message
