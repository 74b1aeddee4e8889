-- The table failed at the message, or took it.
use Rattle.procedure_worker.specs.Works.{start_of}
use Rattle.procedure_worker.proofs.Works.{given_fault, given_dealing}
use Rattle.procedure_worker.proofs.worker.Worker.serve.Goals as goal

pub returns-in-Err : goal.returns-in-Err
returns-in-Err g c =
    let w = c.args.self.now in
    given_fault (start_of g.B.Board.identity c.args.desk.now) g.S.PathSet.members c.args.due c.args.job
    (g.B.Board.sight w.pass) w (record w { table = c.deliver.new.table }) c.requires c.fail.result
    (g.B.Board.sight c.fail.new.pass) _ c.in-Err.why c.in-Err.ensures c.fail.ensures

pub post_all_owed-requires : goal.post_all_owed-requires
post_all_owed-requires g c =
    given_dealing (start_of g.B.Board.identity c.args.desk.now) g.S.PathSet.members c.args.due c.args.job
    (g.B.Board.sight c.args.self.now.pass) c.args.self.now _ c.requires tt c.in-Ok.ensures
