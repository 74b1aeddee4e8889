-- If what the statements that are left assert comes after what is there so far, all is there; each call's measure is
-- what it still has to look at.
use Rattle.std.proofs.Common.{◌+◌, ◌*◌, List, Option, drop}
use Rattle.language.specs.Sequential.{statements}
use Rattle.trees.specs.Trees.{deed_of, block_of}
use Rattle.trees.proofs.Held.{held}
use Rattle.flow_graph.specs.Asserted.{asserts_in}
use Rattle.flow_graph.specs.Views.{scope_seen}
use Rattle.flow_graph.specs.declared.side.CompiledSide.{CompiledSide}
use Rattle.flow_graph.proofs.AssertLemmas.{Put}
use Rattle.flow_graph.proofs.scope.Scope.+asserting.Given as goal

abbrev pub invariant-put_asserts-loop-stmt : goal.invariant-put_asserts-loop-stmt
invariant-put_asserts-loop-stmt g l =
    (new : List (Option (CompiledSide g.row.A.Denot)))
    → Put (scope_seen l.self) l.sides.items new (asserts_in (block_of (drop l.stmt-index l.stmts)))
    → Put (scope_seen l.self) l.initial.sides.items new (asserts_in (block_of l.stmts))

abbrev pub decreases-put_asserts : goal.decreases-put_asserts
decreases-put_asserts g l = 2 * statements (block_of l.stmts.now) + 1

abbrev pub decreases-put_own_asserts : goal.decreases-put_own_asserts
decreases-put_own_asserts g l = 2 * held (deed_of l.stmt.now.core) + 2
