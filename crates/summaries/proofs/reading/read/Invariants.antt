-- Each table so far is read off.
use Rattle.std.proofs.Common.{◌≡◌, ℕ, Some, length, slice_get}
use Rattle.summaries.specs.declared.table.Table.{Table}
use Rattle.summaries.specs.Effects.{Effect}
use Rattle.summaries.specs.Together.{IsReadOff}
use Rattle.summaries.proofs.reading.read.Given as goal

abbrev pub invariant-loop-table : goal.invariant-loop-table
invariant-loop-table g l = record {
  count : length l.summaries.items ≡ l.table-index;
  read : (q : ℕ) (t : Table g.row.G.Denot g.row.A.Denot g.row.S.Denot) (s : Effect) → slice_get l.fn.tables q ≡ Some t
      → slice_get l.summaries.items q ≡ Some s → IsReadOff t.found s;
}
