-- The table stays one.
use Rattle.summaries.specs.Tables.{IsTable}
use Rattle.analysis_tests.proofs.tables.refused_table.worked.Given as goal

abbrev pub invariant-words : goal.invariant-words
invariant-words g l = IsTable g.S.PathSet.members l.table
