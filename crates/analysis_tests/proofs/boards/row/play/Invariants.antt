-- The passes and their jobs are those of a row.
use Rattle.analysis_tests.specs.Boards.{IsRow}
use Rattle.analysis_tests.proofs.boards.row.play.Given as goal

abbrev pub invariant-loop-number : goal.invariant-loop-number
invariant-loop-number g l = IsRow g.B.Board.sight g.B.Board.account (g.B.Board.identity l.board) l.row
