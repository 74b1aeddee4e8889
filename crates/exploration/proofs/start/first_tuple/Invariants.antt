use Rattle.std.proofs.Common.{◌≡◌, ℕ, ◌<◌, ◌≤◌, length, get_or}
use Rattle.flow_graph.specs.Drawn.{graphs_of}
use Rattle.stack_sets.specs.Nodes.{nodes_in}
use Rattle.exploration.specs.Starts.{AreBegun, IsAlone, first_stack}
use Rattle.exploration.proofs.start.first_tuple.Given as goal

abbrev pub invariant-loop-i : goal.invariant-loop-i
invariant-loop-i g l = record {
  begun : AreBegun (nodes_in l.sets);
  places : length l.nodes ≡ 8;
  done : (k : ℕ) → k < l.i → IsAlone (nodes_in l.sets) (get_or l.nodes k 0) (first_stack (graphs_of l.graphs) (get_or l.procedures k 0));
  rest : (k : ℕ) → l.i ≤ k → get_or l.nodes k 0 ≡ 0;
}
