-- The asserts so far are those of the procedures with their numbers.
use Rattle.std.proofs.Common.{◌≡◌, length}
use Rattle.flow_graph.specs.Drawing.{AreAssertsIn}
use Rattle.flow_graph.proofs.GraphLemmas.{AllMade}
use Rattle.flow_graph.proofs.asserts.find_asserts.Given as goal

abbrev pub invariant-loop-proc : goal.invariant-loop-proc
invariant-loop-proc g l =
    (length l.procedures.items ≡ l.proc-index) × AllMade (AreAssertsIn l.program) l.proc-items l.procedures.items
