-- The tables so far are new, each that of the graph with its number.
use Rattle.std.proofs.Common.{◌≡◌, ℕ, Some, length, slice_get}
use Rattle.summaries.specs.declared.table.Table.{Table}
use Rattle.summaries.specs.Tables.{IsNew}
use Rattle.summaries.proofs.tabulation.tables_of.Given as goal
use Rattle.path_sets.specs.EdgeLimits.{most_of}

abbrev pub invariant-loop-procedure : goal.invariant-loop-procedure
invariant-loop-procedure g l = record {
  count : length l.tables.items ≡ l.procedure;
  fresh : (q : ℕ) (t : Table g.row.G.Denot g.row.A.Denot g.row.S.Denot) → slice_get l.tables.items q ≡ Some t → IsNew g.S.PathSet.members t;
  numbered : (q : ℕ) (t : Table g.row.G.Denot g.row.A.Denot g.row.S.Denot) → slice_get l.tables.items q ≡ Some t → t.procedure ≡ q;
  limits : (q : ℕ) (t : Table g.row.G.Denot g.row.A.Denot g.row.S.Denot) → slice_get l.tables.items q ≡ Some t →
      most_of t.limit ≡ most_of l.fn.limit;
  graphs : (q : ℕ) (t : Table g.row.G.Denot g.row.A.Denot g.row.S.Denot) → slice_get l.tables.items q ≡ Some t
      → slice_get l.fn.graphs.graphs.items q ≡ Some t.graph.now;
}
