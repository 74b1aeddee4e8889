-- there is a table for each row so far
use Rattle.std.proofs.Common.{◌≡◌, length}
use Rattle.flow_graph.specs.Views.{over_bits}
use Rattle.flow_graph.proofs.CaseTableLemmas.{AreCases}
use Rattle.flow_graph.proofs.scope.Scope.case_tables.Given as goal

abbrev pub invariant-loop-row : goal.invariant-loop-row
invariant-loop-row g l = (length l.cases.items ≡ l.row) × AreCases l.bits (over_bits l.self l.e) 0 l.cases.items
