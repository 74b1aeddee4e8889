-- What a pass of the board with a lock for each mailbox does while it is inside the lock of one.
use Rattle.std.specs.Prelude.{◌≡◌, ℕ, ◌^◌, ◌<◌, List, [], ◌∷◌, ◌++◌, Option, Some, None, length, slice_get}
use Rattle.post_ledger.specs.declared.event.Event.{Event}
use Rattle.post_ledger.specs.declared.event.Event.TheVariants.{Take, Done}
use Rattle.post_ledger.specs.History.{posts, takes}

module _ {M : Type 0} where
  -- the oldest message that was not taken is taken out of the mailbox, or every one is
  abbrev pub TookOut : Option (ℕ × M) → List (Event M) → List (Event M) → Type 0
  TookOut (Some next) before after = (sender : ℕ)
      × (slice_get (posts before) (length (takes before)) ≡ Some (sender, next.1))
      × (next.0 ≡ length (takes before))
      × (after ≡ before ++ Take sender next.1 ∷ [])
  TookOut None before after = (after ≡ before) × (length (posts before) ≡ length (takes before))

  -- the take is completed, and no more is done, since every message is taken or the word found says that the board is
  -- aborted; or then the oldest message is taken out, and the word found says that it is not
  abbrev pub Finished : ℕ → ℕ → Option (ℕ × M) → List (Event M) → List (Event M) → Type 0
  Finished take found None before after =
      (after ≡ before ++ Done take ∷ []) × (found < 2 ^ 63 → length (posts after) ≡ length (takes after))
  Finished take found (Some next) before after =
      TookOut (Some next) (before ++ Done take ∷ []) after × (found < 2 ^ 63)
