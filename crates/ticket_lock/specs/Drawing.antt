-- How the seats of a table draw.
use Rattle.std.specs.Prelude.{◌≡◌, ℕ, slice_set, Option}
use mathlib.Core.Option.{some}
use lib.ListN.{get_elem?}
use Rattle.atomic_table.specs.Table.{State}
use Rattle.ticket_lock.specs.declared.hand.Hand.{Hand}
use Rattle.ticket_lock.specs.Turns.{with_ticket}

-- From the first state to the second the seat has drawn the number, and no other seat has changed.
pub record HasDrawn {T V : Type 0} (see : V → Hand T) (seat number : ℕ) (earlier later : State (Option T) V) : Type 0 where
  pub before : V
  pub after : V
  pub there : get_elem? earlier.views seat ≡ some before
  pub others : later.views ≡ slice_set earlier.views seat after
  pub ticket : see after ≡ with_ticket number (see before)
