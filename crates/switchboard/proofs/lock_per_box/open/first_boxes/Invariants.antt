use Rattle.std.proofs.Common.{◌≡◌, ℕ, ◌≤◌, ◌∷◌, [], List, Some, Option, length, slice_get, vec_capacity}
use Rattle.post_ledger.specs.declared.event.Event.{Event}
use Rattle.post_ledger.specs.declared.entry.Entry.TheVariants.{Posted}
use Rattle.post_ledger.specs.Orders.{part}
use Rattle.switchboard.proofs.lock_per_box.open.first_boxes.Given as goal

abbrev pub invariant-loop-number : goal.invariant-loop-number
invariant-loop-number g l =
    (length l.slots.items ≡ l.number) × (l.boxes ≤ vec_capacity l.slots)
    × ((q : ℕ) (h : Option (List (Event g.row.M.Denot))) → slice_get l.slots.items q ≡ Some h
    → h ≡ Some (part q (Posted l.to l.boxes l.first 0 ∷ [])))
