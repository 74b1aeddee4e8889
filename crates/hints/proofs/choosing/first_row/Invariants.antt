-- The first row that fits is among the rows that are left.
use Rattle.std.proofs.Common.{◌≡◌, drop, map}
use Rattle.std.specs.Prelude.{find}
use Rattle.hints.specs.Place.{surroundings_of}
use Rattle.hints.specs.Row.{fits, row_of}
use Rattle.hints.proofs.choosing.first_row.Given as goal

abbrev pub invariant-loop-row : goal.invariant-loop-row
invariant-loop-row l =
    find (fits (surroundings_of l.place)) (map row_of (drop l.row-index l.rows)) ≡ find (fits (surroundings_of l.place)) (map row_of l.rows)
