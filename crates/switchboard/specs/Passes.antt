-- What a pass of the board behind one lock has of its lane.
use Rattle.std.specs.Prelude.{◌≡◌, ℕ, ◌-◌, ◌<◌, ◌≤◌, ◌==◌, if◌then◌else◌, not, Bool, true, false, List, [], ◌∷◌, Option, Some, None, IsSome}
use Rattle.ticket_lock.specs.Lanes.{Standing, Told}
use Rattle.ticket_lock.specs.History.{EndsIn}
use Rattle.post_ledger.specs.declared.entry.Entry.{Entry}
use Rattle.post_ledger.specs.Orders.{own, posted, completed}
use Rattle.switchboard.specs.declared.calls.Abort.{Abort}
use Rattle.switchboard.specs.Sights.{BoardState, Sight, Account, Before, IsSound}

-- whether the abort, if there was one, is of this pass
abbrev pub is_by : ℕ → Option Abort → Bool
is_by pass None = false
is_by pass (Some abort) = abort.by == pass

-- of the last of a list, or if there is none
abbrev pub latest : {A B : Type 0} → (A → B) → B → List A → B
latest f d [] = d
latest f d (x ∷ []) = f x
latest f d (x ∷ y ∷ ys) = latest f d (y ∷ ys)

-- how many calls a lane with a given number of tickets has, if one is kept for an abort
abbrev pub calls_of : Bool → ℕ → ℕ
calls_of kept left = if kept then left - 1 else left

-- the order has as many Dones as Posts: if it is lawful, it is closed
abbrev pub is_complete : {M : Type 0} → List (Entry M) → Bool
is_complete order = posted order == completed order

module _ {M W : Type 0} where
  -- a pass's own part of a state: its own list, and whether the abort is its own
  abbrev pub share : ℕ → BoardState M W → List (Entry M) × Bool
  share pass state = (own pass state.order, is_by pass state.aborted)

  -- how contracts see a pass, which knows the close if the order that it has seen is complete
  abbrev pub sight_of : Standing (BoardState M W) → W → ℕ → Bool → Sight M W
  sight_of lane world boxes kept = record {
    board = lane.lock;
    number = lane.number;
    calls = calls_of kept lane.left;
    made = not kept;
    knows = is_complete (latest (λ state. state.order) [] lane.seen);
    seen = record {
      world = world;
      boxes = boxes;
      order = latest (λ state. state.order) [] lane.seen;
      aborted = latest (λ state. state.aborted) None lane.seen;
    };
  }

  -- how contracts see what a pass told
  abbrev pub account_of : Told (BoardState M W) → Account M
  account_of note = record {
    board = note.lock;
    knows = is_complete (latest (λ state. state.order) [] note.seen);
    order = latest (λ state. state.order) [] note.seen;
    aborted = latest (λ state. state.aborted) None note.seen;
  }

  module _ (fits : W → ℕ → M → Type 0) where
    -- one state comes before another under the lock: the second continues from the first, and is sound if the first
    -- is
    abbrev pub Comes : BoardState M W → BoardState M W → Type 0
    Comes before after = Before before after × (IsSound fits before → IsSound fits after)

    -- The lane is outside and waits for nothing; what it has seen last is sound, and has the pass's own part as the
    -- lane left it; a ticket is kept until the pass makes an abort.
    pub record IsPass (lane : Standing (BoardState M W)) (world : W) (boxes : ℕ) (kept : Bool) : Type 0 where
      pub waits : lane.tickets ≡ []
      pub outside : lane.inside ≡ []
      pub last : BoardState M W
      pub ends : EndsIn lane.seen last
      pub sound : IsSound fits last
      pub same_world : last.world ≡ world
      pub same_boxes : last.boxes ≡ boxes
      pub left : BoardState M W
      pub has : lane.own ≡ left ∷ []
      pub own_part : share lane.number last ≡ share lane.number left
      pub number : lane.number < boxes
      pub few : boxes ≤ 64
      pub ticket : kept ≡ true → 0 < lane.left
      pub not_by : kept ≡ true → is_by lane.number left.aborted ≡ false
      pub knows : kept ≡ false → IsSome last.aborted

    -- what the lane had seen last, which is sound, was told
    pub record IsTold (note : Told (BoardState M W)) : Type 0 where
      pub last : BoardState M W
      pub ends : EndsIn note.seen last
      pub sound : IsSound fits last
