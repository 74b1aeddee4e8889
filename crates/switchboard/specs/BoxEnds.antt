-- What the passes of a board with a lock for each mailbox have together at its end.
use Rattle.std.specs.Prelude.{◌≡◌, ◌↔◌, ℕ, ◌+◌, ◌<◌, ◌≤◌, Bool, true, IsTrue, List, [], Option, Some, length, slice_get}
use mathlib.Core.Option.{some}
use lib.ListN.{get_elem?}
use Rattle.atomic_table.specs.Seated.{TableId}
use Rattle.ticket_lock.specs.Count.{times}
use Rattle.ticket_lock.specs.History.{StartsWith}
use Rattle.post_ledger.specs.declared.event.Event.{Event}
use Rattle.post_ledger.specs.declared.entry.Entry.{Entry}
use Rattle.post_ledger.specs.Orders.{part, own, IsClosed}
use Rattle.switchboard.specs.declared.calls.Abort.{Abort}
use Rattle.switchboard.specs.declared.lock_per_box.knowing.Ground.{Ground}
use Rattle.switchboard.specs.declared.lock_per_box.knowing.Own.{Own}
use Rattle.switchboard.specs.Sights.{Sight, IsSound}
use Rattle.switchboard.specs.Knowing.{unseen, state_of, hand_at, pass_numbers}
use Rattle.switchboard.specs.PerBox.{SeatView, Saw, Seat}
use Rattle.switchboard.specs.BoxPasses.{box_sight, IsBoxPass}

module _ {M W : Type 0} where
  -- a pass's own part, as its sight shows it
  abbrev pub own_of : Sight M W → Own M
  own_of sight = record { number = sight.number; events = own sight.number sight.seen.order; made = sight.made }

  -- the seat has taken in what this pass had
  pub record TookInPass (sight : Sight M W) (view : SeatView M W) : Type 0 where
    pub begins : StartsWith view.seen.order sight.seen.order
    pub aborted : (abort : Abort) → sight.seen.aborted ≡ Some abort → view.seen.aborted ≡ Some abort
    pub knows : sight.knows ≡ true → view.seen.knows ≡ true
    pub lane : (place : ℕ) × (get_elem? view.lanes place ≡ some (own_of sight))
    pub world : (place : ℕ) × (ground : Ground M W) × (get_elem? view.boards place ≡ some ground) × (ground.world.value ≡ sight.seen.world)

  -- the seat has taken in the passes from number `from` on, and is outside all locks
  pub record Gathered (boxes : ℕ) (all : List (Sight M W)) (from : ℕ) (me : Seat M W) : Type 0 where
    pub out : me.1 ≡ []
    pub told : me.0.told ≡ unseen
    pub owes : me.0.owes ≡ 0
    pub quiet : (mailbox : ℕ) → mailbox < boxes → ((hand_at mailbox me.0).tickets ≡ []) × ((hand_at mailbox me.0).inside ≡ [])
    pub count : length me.0.lanes + from ≡ length all
    pub each : (place : ℕ) (sight : Sight M W) → from ≤ place → slice_get all place ≡ Some sight → TookInPass sight me.0

  module _ (fits : W → ℕ → M → Type 0) where
    -- the seat is that of the pass
    abbrev pub HasSeat : Sight M W → TableId → Seat M W → Type 0
    HasSeat sight id me = IsBoxPass fits id sight.number sight.calls sight.made sight.seen.world sight.seen.boxes me
        × (box_sight id sight.number sight.calls sight.made sight.seen.world sight.seen.boxes me.0.seen ≡ sight)

    -- What is left of a board whose passes a seat has all: the longest order, whose parts are the histories; it is
    -- closed if no post is outstanding; and the maker of the first abort has made it.
    pub record BoardEnds (basis : Ground M W) (view : SeatView M W) (histories : List (List (Event M))) (closed : Bool) : Type 0 where
      pub order : List (Entry M)
      pub first : Option Abort
      pub low : ℕ
      pub sound : IsSound fits (state_of basis (record { order = order; aborted = first; knows = true }))
      pub saw : Saw fits basis order first low view.seen
      pub owns : (place : ℕ) (lane : Own M) → get_elem? view.lanes place ≡ some lane → own lane.number order ≡ lane.events
      pub boards : (place : ℕ) (ground : Ground M W) → get_elem? view.boards place ≡ some ground → ground ≡ basis
      pub once : (number : ℕ) → times number (pass_numbers view) ≤ 1
      pub maker : (abort : Abort) → first ≡ Some abort
          → (place : ℕ) × (lane : Own M) × (get_elem? view.lanes place ≡ some lane) × (lane.number ≡ abort.by) × (lane.made ≡ true)
      pub count : length histories ≡ basis.boxes
      pub parts : (mailbox : ℕ) (history : List (Event M)) → slice_get histories mailbox ≡ Some history → history ≡ part mailbox order
      pub close : IsTrue closed ↔ IsClosed order
      pub known : view.seen.knows ≡ true → closed ≡ true
