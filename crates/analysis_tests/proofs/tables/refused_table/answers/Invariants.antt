-- The table stays one.
use Rattle.summaries.specs.Tables.{IsTable}
use Rattle.analysis_tests.proofs.tables.refused_table.answers.Given as goal

abbrev pub invariant-turns : goal.invariant-turns
invariant-turns g l = IsTable g.S.PathSet.members l.table
