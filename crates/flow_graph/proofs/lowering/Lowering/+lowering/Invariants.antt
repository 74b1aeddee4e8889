-- If flows of the statements that are left come after those so far, all statements are lowered; each call's measure
-- is what it still has to lower.
use Rattle.std.proofs.Common.{◌≡◌, ◌≤◌, ◌+◌, ◌*◌, List, length, map}
use Rattle.language.specs.Rest.{Code}
use Rattle.language.specs.Sequential.{statements}
use Rattle.language.specs.Flow.{rests}
use Rattle.trees.specs.Trees.{deed_of, block_of}
use Rattle.trees.proofs.Held.{held}
use Rattle.flow_graph.specs.declared.flow.Flow.{Flow}
use Rattle.flow_graph.specs.Nodes.{point_at, node_of}
use Rattle.flow_graph.specs.Flows.{Lowered}
use Rattle.flow_graph.specs.Lowering.{lowered_routine, lowered_widths, code_from, IsCounted}
use Rattle.flow_graph.proofs.lowering.Lowering.+lowering.Given as goal

abbrev pub invariant-block-loop-stmt : goal.invariant-block-loop-stmt
invariant-block-loop-stmt g l =
    (statements (block_of l.rest) ≤ statements (block_of l.stmts))
    × (length l.flows.items + statements (block_of l.rest) ≡ length l.initial.flows.items + statements (block_of l.stmts))
    × ((k : Code) (new : List (Flow g.row.A.Denot)) → point_at k ≡ l.after →
    IsCounted l.self (length l.initial.flows.items) l.stmts →
    Lowered l.flows.items new (map (node_of (lowered_routine l.self))
    (rests (code_from l.self (length l.flows.items) l.rest) k)) (lowered_widths l.self) →
    Lowered l.initial.flows.items new
    (map (node_of (lowered_routine l.self)) (rests (code_from l.self (length l.initial.flows.items) l.stmts) k))
    (lowered_widths l.self))

abbrev pub decreases-block-loop-stmt : goal.decreases-block-loop-stmt
decreases-block-loop-stmt g l = length l.rest

abbrev pub decreases-block : goal.decreases-block
decreases-block g l = 2 * statements (block_of l.stmts.now) + 1

abbrev pub decreases-statement : goal.decreases-statement
decreases-statement g l = 2 * held (deed_of l.stmt.now.core) + 2
