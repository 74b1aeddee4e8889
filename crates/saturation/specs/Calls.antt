-- The callers and the finished frames of calls, as far as they were worked on.
use Rattle.std.specs.Prelude.{◌≡◌, ◌↔◌, Bool, ◌&&◌, nat_eq, List}
use Rattle.language.specs.Lists.{Member}
use Rattle.groups.specs.Under.{under}
use Rattle.turns.specs.declared.numbered_frame.NumberedFrame.{NumberedFrame}
use Rattle.saturation.specs.declared.calls.Calls.{Calls}
use Rattle.saturation.specs.declared.item.Below.TheVariants.{Call}
use Rattle.saturation.specs.declared.item.Entry.{Entry}
use Rattle.saturation.specs.declared.item.Item.{Item}
use Rattle.saturation.specs.declared.item.Item.TheVariants.{Head, Waits}
use Rattle.saturation.specs.declared.paired.Finished.{Finished}
use Rattle.saturation.specs.declared.paired.Resting.{Resting}

-- whether two frames are the same
abbrev pub frame_eq : NumberedFrame → NumberedFrame → Bool
frame_eq x y = nat_eq x.procedure y.procedure && (nat_eq x.point y.point && nat_eq x.places y.places)

-- whether two calls are the same
abbrev pub entry_eq : Entry → Entry → Bool
entry_eq x y = nat_eq x.globals y.globals && frame_eq x.frame y.frame

module _ {Alloc : Type 0} (calls : Calls Alloc) where
  -- the callers of a call
  abbrev pub callers_of : Entry → List Resting
  callers_of entry = under entry_eq calls.callers.by_key entry

  -- the finished frames of a call
  abbrev pub finished_of : Entry → List Finished
  finished_of entry = under entry_eq calls.finished.by_key entry

-- the caller of a call as an item
abbrev pub caller_item : Entry → Resting → Item
caller_item entry resting = Waits (record { entry = entry; frame = resting.frame; below = resting.below })

-- the finished frame of a call as an item
abbrev pub finished_item : Entry → Finished → Item
finished_item entry finished = Head (record { globals = finished.globals; frame = finished.frame; below = Call entry })

-- The lists have exactly the callers and the finished frames of calls that are among these items.
pub record AreListed {Alloc : Type 0} (calls : Calls Alloc) (done : List Item) : Type 0 where
  pub callers : (entry : Entry) (resting : Resting) → Member resting (callers_of calls entry) ↔ Member (caller_item entry resting) done
  pub finished : (entry : Entry) (one : Finished) → Member one (finished_of calls entry)
      ↔ (Member (finished_item entry one) done × (one.frame.point ≡ 0))
