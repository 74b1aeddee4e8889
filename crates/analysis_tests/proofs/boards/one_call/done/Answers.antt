-- The completion leaves no job in the place, or the one that came back.
use Rattle.std.proofs.Common.{sym, ◌∙◌}
use Rattle.analysis_tests.proofs.Leaving.{leaves_back, leaves_done}
use Rattle.analysis_tests.proofs.boards.one_call.done.Goals as goal

pub returns-in-Ok : goal.returns-in-Ok
returns-in-Ok g c =
    let s = g.B.Board.sight c.args.pass.now in
    let t = g.B.Board.sight c.done.new.pass in
    let was = sym c.take.ensures.value ∙ c.in-Some.is in
    leaves_done _ s t c.args.place.now c.take.new.self c.in-Some.job was c.take.ensures.after c.in-Ok.ensures

pub returns-in-Err : goal.returns-in-Err
returns-in-Err g c =
    let s = g.B.Board.sight c.args.pass.now in
    let u = g.B.Board.sight c.done.new.pass in
    let t = g.B.Board.sight c.put.new.pass in
    let was = sym c.take.ensures.value ∙ c.in-Some.is in
    leaves_back s u t c.args.place.now c.take.new.self c.put.new.place c.in-Some.job c.in-Err.back c.requires.job was
    c.in-Err.ensures.0 c.in-Err.ensures.1 c.take.ensures.after c.put.ensures.spends c.put.ensures.place
