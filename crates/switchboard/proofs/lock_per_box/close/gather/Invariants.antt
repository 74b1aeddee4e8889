use Rattle.std.proofs.Common.{◌≡◌, List, ◌++◌, length}
use Rattle.switchboard.specs.BoxEnds.{Gathered}
use Rattle.switchboard.proofs.lock_per_box.close.gather.Given as goal

abbrev pub invariant-loop-pass : goal.invariant-loop-pass
invariant-loop-pass g l =
    (l.seat.table_id ≡ l.shared.table_id)
    × ((rest : List _) × (l.fn.passes.items ≡ l.passes.items ++ rest))
    × Gathered l.shared.key.boxes l.fn.passes.items (length l.passes.items) l.seat.me

abbrev pub decreases-loop-pass : goal.decreases-loop-pass
decreases-loop-pass g l = length l.passes.items
