-- Each graph so far is drawn from the procedure with its number.
use Rattle.std.proofs.Common.{◌≡◌, length}
use Rattle.flow_graph.specs.Drawing.{IsGraphOf}
use Rattle.flow_graph.proofs.GraphLemmas.{AllMade}
use Rattle.flow_graph.proofs.drawing.draw.Given as goal

abbrev pub invariant-loop-proc : goal.invariant-loop-proc
invariant-loop-proc g l = (length l.graphs.items ≡ l.proc-index) × AllMade (IsGraphOf l.program) l.proc-items l.graphs.items
