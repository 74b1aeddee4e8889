use Rattle.std.proofs.Common.{◌≡◌, ℕ, ◌<◌, ◌≤◌, List, Some, true, false, length, get_or, slice_get, vec_capacity}
use lib.ListN.{get_elem?}
use mathlib.Core.Option.{some}
use Rattle.std.specs.Mem.Slots.{slots_filled, slots_items, slots_len}
use Rattle.post_ledger.specs.declared.event.Event.{Event}
use Rattle.switchboard.proofs.BoxEnding.{Rests}
use Rattle.switchboard.proofs.lock_per_box.close.settle.Given as goal

abbrev pub invariant-loop-slot : goal.invariant-loop-slot
invariant-loop-slot g l =
    Rests g.M.Mail.fits l.fn.table.shared.key l.fn.seat.me.0 l.word (slots_items l.closed.slots)
    × (slots_len l.closed.slots ≡ l.fn.table.shared.key.boxes)
    × ((k : ℕ) → l.slot ≤ k → k < slots_len l.closed.slots → get_or (slots_filled l.closed.slots) k false ≡ true)
    × ((k : ℕ) → k < l.slot → get_or (slots_filled l.closed.slots) k false ≡ false)
    × (length l.room.items ≡ l.slot)
    × (l.fn.table.shared.key.boxes ≤ vec_capacity l.room)
    × ((q : ℕ) (h : List (Event g.row.M.Denot)) → slice_get l.room.items q ≡ Some h
    → get_elem? (slots_items l.closed.slots) q ≡ some (Some h))
