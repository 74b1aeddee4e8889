-- The first row that fits is among the rows of the tables that are left.
use Rattle.std.proofs.Common.{◌≡◌, drop}
use Rattle.hints.specs.Place.{surroundings_of}
use Rattle.hints.specs.Tables.{row_among}
use Rattle.hints.proofs.tables.first_among.Given as goal

abbrev pub invariant-loop-table : goal.invariant-loop-table
invariant-loop-table l =
    row_among (surroundings_of l.place) (drop l.table-index l.tables) ≡ row_among (surroundings_of l.place) l.tables
