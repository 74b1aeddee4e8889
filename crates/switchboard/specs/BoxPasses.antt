-- What a pass of the board with a lock for each mailbox has of its seat.
use Rattle.std.specs.Prelude.{◌≡◌, ℕ, ◌+◌, ◌^◌, ◌<◌, ◌≤◌, Bool, true, [], ◌∷◌, IsSome, length}
use mathlib.Core.Option.{some}
use lib.ListN.{get_elem?}
use Rattle.atomic_table.specs.Seated.{TableId}
use Rattle.ticket_lock.specs.declared.hand.Hand.{Hand}
use Rattle.post_ledger.specs.Orders.{own, IsClosed}
use Rattle.switchboard.specs.declared.lock_per_box.knowing.Ground.{Ground}
use Rattle.switchboard.specs.declared.lock_per_box.knowing.Seen.{Seen}
use Rattle.switchboard.specs.Sights.{BoardState, Sight, Account, IsSound}
use Rattle.switchboard.specs.Knowing.{unseen, only_seen, hand_at}
use Rattle.switchboard.specs.PerBox.{IsBoardTable, Seat}

-- the hand has nothing but its share, and has tickets for a given number of calls
pub record IsIdleHand {T : Type 0} (left : ℕ) (hand : Hand T) : Type 0 where
  pub tickets : hand.tickets ≡ []
  pub inside : hand.inside ≡ []
  pub parts : hand.parts ≡ 1
  pub drawn : length hand.drawn + left ≤ 2 ^ 56

module _ {M : Type 0} where
  -- how contracts see what a pass told
  abbrev pub box_account : TableId → Seen M → Account M
  box_account id seen = record { board = id; knows = seen.knows; order = seen.order; aborted = seen.aborted }

module _ {M W : Type 0} where
  -- what was seen, as a state of the board
  abbrev pub state_seen : W → ℕ → Seen M → BoardState M W
  state_seen world boxes seen = record { world = world; boxes = boxes; order = seen.order; aborted = seen.aborted }

  -- how contracts see a pass
  abbrev pub box_sight : TableId → ℕ → ℕ → Bool → W → ℕ → Seen M → Sight M W
  box_sight id number left made world boxes seen = record {
    board = id;
    number = number;
    calls = left;
    made = made;
    knows = seen.knows;
    seen = state_seen world boxes seen;
  }

  module _ (fits : W → ℕ → M → Type 0) where
    -- what a pass has seen: it is sound; whoever knows the close has seen a closed order; and whoever made an abort
    -- knows of one
    pub record IsSeen (world : W) (boxes : ℕ) (made : Bool) (seen : Seen M) : Type 0 where
      pub sound : IsSound fits (state_seen world boxes seen)
      pub close : seen.knows ≡ true → IsClosed seen.order
      pub known : made ≡ true → IsSome seen.aborted

    -- The seat is this pass's alone, at a board of this world with a given number of mailboxes. It holds no mailbox,
    -- waits for none, and has none in the count; it made exactly its own events of the order that it has seen; it
    -- has tickets, and Posts to count up, for its calls.
    pub record IsBoxPass (id : TableId) (number left : ℕ) (made : Bool) (w : W) (boxes : ℕ) (me : Seat M W) : Type 0 where
      pub base : Ground M W
      pub is_base : get_elem? me.0.boards 0 ≡ some base
      pub world : base.world.value ≡ w
      pub mailboxes : base.boxes ≡ boxes
      pub sized : IsBoardTable id boxes
      pub near : number < boxes
      pub lanes : me.0.lanes ≡ record { number = number; events = own number me.0.seen.order; made = made } ∷ []
      pub outside : me.1 ≡ []
      pub told : me.0.told ≡ unseen
      pub owes : me.0.owes ≡ 0
      pub budget : left ≤ me.0.budget
      pub hands : (mailbox : ℕ) → mailbox < boxes → IsIdleHand left (hand_at mailbox me.0)
      pub seen : IsSeen w boxes made me.0.seen

  -- a seat that has nothing, and saw this
  pub record IsBoxTold (id : TableId) (me : Seat M W) : Type 0 where
    pub blank : me ≡ (only_seen me.0.seen, [])
