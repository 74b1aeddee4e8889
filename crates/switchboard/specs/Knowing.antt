-- What a seat of the board with a lock for each mailbox knows, and how it changes.
use Rattle.std.specs.Prelude.{ℕ, zero, suc, ◌+◌, ◌*◌, ◌^◌, ◌-◌, ◌==◌, ◌||◌, if◌then◌else◌, true, false, List, []}
use Rattle.std.specs.Prelude.{◌∷◌, ◌++◌, map, drop, take, Option, Some, None, slice_index_or, slice_set}
use Rattle.ticket_lock.specs.declared.hand.Hand.{Hand}
use Rattle.ticket_lock.specs.Count.{total}
use Rattle.ticket_lock.specs.History.{longer}
use Rattle.post_ledger.specs.declared.event.Event.{Event}
use Rattle.post_ledger.specs.declared.event.Event.TheVariants.{Post, Take, Done}
use Rattle.post_ledger.specs.declared.entry.Entry.{Entry}
use Rattle.post_ledger.specs.declared.entry.Entry.TheVariants.{Posted, Taken, Completed}
use Rattle.switchboard.specs.declared.calls.Abort.{Abort}
use Rattle.switchboard.specs.declared.lock_per_box.knowing.Ground.{Ground}
use Rattle.switchboard.specs.declared.lock_per_box.knowing.Seen.{Seen}
use Rattle.switchboard.specs.declared.lock_per_box.knowing.Own.{Own}
use Rattle.switchboard.specs.declared.lock_per_box.knowing.Knowing.{Knowing}
use Rattle.switchboard.specs.Sights.{BoardState}

module _ {T : Type 0} where
  -- a hand that has nothing but its shares
  abbrev pub fresh_hand : ℕ → Hand T
  fresh_hand parts = record { seen = []; tickets = []; inside = []; drawn = []; parts = parts }

  -- a given number of hands that have nothing but such shares
  abbrev pub fresh_hands : ℕ → ℕ → List (Hand T)
  fresh_hands zero parts = []
  fresh_hands (suc n) parts = fresh_hand parts ∷ fresh_hands n parts

  -- all that two hands had
  abbrev pub merged_hand : Hand T → Hand T → Hand T
  merged_hand one other = record {
    seen = one.seen;
    tickets = one.tickets ++ other.tickets;
    inside = one.inside ++ other.inside;
    drawn = one.drawn ++ other.drawn;
    parts = one.parts + other.parts;
  }

  -- the same, lock by lock
  abbrev pub merged_hands : List (Hand T) → List (Hand T) → List (Hand T)
  merged_hands [] ks = ks
  merged_hands (h ∷ hs) [] = h ∷ hs
  merged_hands (h ∷ hs) (k ∷ ks) = merged_hand h k ∷ merged_hands hs ks

-- an abort that either knew
abbrev pub either_abort : Option Abort → Option Abort → Option Abort
either_abort None other = other
either_abort (Some abort) other = Some abort

module _ {M : Type 0} where
  -- an event of this mailbox and of this pass, as an entry of the order
  abbrev pub entry_of : ℕ → ℕ → Event M → Entry M
  entry_of mailbox under (Post sender message) = Posted mailbox sender message under
  entry_of mailbox under (Take sender message) = Taken mailbox sender message
  entry_of mailbox under (Done job) = Completed mailbox job

  -- how many a pass has in the count after it recorded the event
  abbrev pub owes_after : Event M → ℕ → ℕ
  owes_after (Post sender message) owes = owes - 1
  owes_after (Take sender message) owes = owes
  owes_after (Done job) owes = owes + 1

  -- nothing was seen
  abbrev pub unseen : Seen M
  unseen = record { order = []; aborted = None; knows = false }

  -- what two have seen
  abbrev pub both_seen : Seen M → Seen M → Seen M
  both_seen one other = record {
    order = longer one.order other.order;
    aborted = either_abort one.aborted other.aborted;
    knows = one.knows || other.knows;
  }

  -- the own part with one more event
  abbrev pub with_event : Entry M → Own M → Own M
  with_event entry lane = record lane { events = lane.events ++ entry ∷ [] }

  -- the passes from this number on, which made no event
  abbrev pub owns_from : ℕ → ℕ → List (Own M)
  owns_from first zero = []
  owns_from first (suc count) = record { number = first; events = []; made = false } ∷ owns_from (suc first) count

  -- the pass has made an abort
  abbrev pub made_abort : Own M → Own M
  made_abort lane = record lane { made = true }

  -- one, if this pass made an abort
  abbrev pub made_by : ℕ → Own M → ℕ
  made_by number lane = if lane.made then (if lane.number == number then 1 else 0) else 0

module _ {M W : Type 0} where
  -- the state of a board of which this was seen
  abbrev pub state_of : Ground M W → Seen M → BoardState M W
  state_of basis seen = record { world = basis.world.value; boxes = basis.boxes; order = seen.order; aborted = seen.aborted }

  -- nothing but the opening post was seen
  abbrev pub first_seen : Ground M W → Seen M
  first_seen basis = record { order = Posted basis.to basis.boxes basis.first 0 ∷ []; aborted = None; knows = false }

module _ {M W T : Type 0} where
  abbrev pub hand_at : ℕ → Knowing M W T → Hand T
  hand_at mailbox view = slice_index_or view.hands mailbox (fresh_hand 0)

  abbrev pub with_hand : ℕ → Hand T → Knowing M W T → Knowing M W T
  with_hand mailbox hand view = record view { hands = slice_set view.hands mailbox hand }

  abbrev pub with_seen : Seen M → Knowing M W T → Knowing M W T
  with_seen seen view = record view { seen = seen }

  -- the numbers of the passes whose seat it is
  abbrev pub pass_numbers : Knowing M W T → List ℕ
  pass_numbers view = map (λ lane. lane.number) view.lanes

  -- how many of them are this pass and made an abort
  abbrev pub makes : ℕ → Knowing M W T → ℕ
  makes number view = total (made_by number) view.lanes

  -- it counted up a Post that it will make under this job
  abbrev pub counted_up : ℕ → Knowing M W T → Knowing M W T
  counted_up job view = record view { owes = view.owes + 1; budget = view.budget - 1; under = job }

  -- it counted down
  abbrev pub counted_down : Knowing M W T → Knowing M W T
  counted_down view = record view { owes = view.owes - 1 }

  -- a seat that has nothing, and was told this or saw it
  abbrev pub only_seen : Seen M → Knowing M W T
  only_seen seen = record {
    boards = [];
    hands = [];
    lanes = [];
    seen = seen;
    told = unseen;
    owes = 0;
    budget = 0;
    under = 0;
  }

  -- a seat of a given number of passes, from this number on, which have seen nothing but the opening post
  abbrev pub first_view : Ground M W → ℕ → ℕ → Knowing M W T
  first_view basis first count = record {
    boards = basis ∷ [];
    hands = fresh_hands basis.boxes count;
    lanes = owns_from first count;
    seen = first_seen basis;
    told = unseen;
    owes = 0;
    budget = count * 2 ^ 56;
    under = 0;
  }

  -- a seat without its first pass
  abbrev pub without_first_pass : Knowing M W T → Knowing M W T
  without_first_pass view = record view {
    hands = map (λ hand. fresh_hand (hand.parts - 1)) view.hands;
    lanes = drop 1 view.lanes;
    budget = view.budget - 2 ^ 56;
  }

  -- a seat of its first pass alone
  abbrev pub first_pass_alone : Knowing M W T → Knowing M W T
  first_pass_alone view = record view {
    hands = map (λ hand. fresh_hand 1) view.hands;
    lanes = take 1 view.lanes;
    budget = 2 ^ 56;
  }

  -- a seat that has all that two had, and was told what the second had seen
  abbrev pub merged_seats : Knowing M W T → Knowing M W T → Knowing M W T
  merged_seats one other = record one {
    boards = one.boards ++ other.boards;
    hands = merged_hands one.hands other.hands;
    lanes = one.lanes ++ other.lanes;
    told = other.seen;
    owes = one.owes + other.owes;
    budget = one.budget + other.budget;
  }

  -- a seat that has taken in what it was told
  abbrev pub informed : Knowing M W T → Knowing M W T
  informed view = record view { seen = both_seen view.seen view.told; told = unseen }
