-- the rows so far have what is written by their values
use Rattle.flow_graph.specs.Joining.{AreRows}
use Rattle.flow_graph.proofs.joining.rows_of.Given as goal

abbrev pub invariant-loop-row : goal.invariant-loop-row
invariant-loop-row g l = AreRows l.writes l.bits l.rows.items l.row
