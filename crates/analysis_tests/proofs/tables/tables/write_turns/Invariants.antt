-- The table stays one.
use Rattle.summaries.specs.Tables.{IsTable}
use Rattle.analysis_tests.proofs.tables.tables.write_turns.Given as goal

abbrev pub invariant-words : goal.invariant-words
invariant-words g l = IsTable g.S.PathSet.members l.table
