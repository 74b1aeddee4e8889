-- A pass that learned keeps its jobs, and what it was told is used up.
use Rattle.analysis_tests.proofs.Leaving.{side_none}
use Rattle.analysis_tests.proofs.boards.row.make.Goals as goal

pub returns-in-Some : goal.returns-in-Some
returns-in-Some g c =
    let row = c.args.row.now in
    let s = g.B.Board.sight row.one in
    let t = g.B.Board.sight c.learn.new.pass in
    let none = c.take.ensures.after in record {
      zero = c.requires.zero;
      one = side_none _ _ 1 s t row.j1 row.j2 c.requires.one c.learn.ensures.none;
      told = λ told at. cc;
    }
