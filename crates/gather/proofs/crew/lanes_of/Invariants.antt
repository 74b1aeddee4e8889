-- The lanes so far are those of their numbers, and there is room for all.
use Rattle.std.proofs.Common.{◌≡◌, ◌≤◌, ◌++◌, length, vec_capacity}
use Rattle.std.specs.Vec.Iter.{into_iter_items}
use Rattle.gather.specs.Lanes.{AreOwn}
use Rattle.gather.proofs.crew.lanes_of.Given as goal

abbrev pub invariant-loop-pass : goal.invariant-loop-pass
invariant-loop-pass g l =
    (l.yielded ++ into_iter_items l.pass-iterator ≡ l.fn.passes.items)
    × (length l.lanes.items ≡ length l.yielded)
    × AreOwn g.B-Board.identity g.B-Board.sight l.context.graphs.now l.context.limit (g.B-Board.identity l.context.board.now) l.lanes.items
    × (length l.fn.passes.items ≤ vec_capacity l.lanes)
