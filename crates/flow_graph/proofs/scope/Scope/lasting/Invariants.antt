-- the bit is not one of those so far
use Rattle.std.proofs.Common.{◌≡◌, drop, map}
use Rattle.trees.specs.Trees.{names_of}
use Rattle.flow_graph.specs.Assignments.{is_among}
use Rattle.flow_graph.specs.Located.{bit_of_name}
use Rattle.flow_graph.specs.Views.{scope_seen}
use Rattle.flow_graph.proofs.scope.Scope.lasting.Given as goal

abbrev pub invariant-loop-other : goal.invariant-loop-other
invariant-loop-other g l =
    is_among l.bit (map (bit_of_name (scope_seen l.self)) (names_of (drop l.other-index l.later)))
    ≡ is_among l.bit (map (bit_of_name (scope_seen l.self)) (names_of l.later))
