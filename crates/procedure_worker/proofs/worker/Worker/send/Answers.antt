-- The message is posted after those that were; or the post was refused, and nothing was.
use Rattle.std.proofs.Common.{refl}
use Rattle.procedure_worker.proofs.Works.{sent_dealing, sending_refused, match_err, took_posted}
use Rattle.procedure_worker.specs.Works.{start_of, IsDealing, IsStopped}
use Rattle.procedure_worker.proofs.worker.Worker.send.Goals as goal

pub returns-clause-done : goal.returns-clause-done
returns-clause-done g c =
    sent_dealing (start_of g.B.Board.identity c.args.desk.now) g.S.PathSet.members c.args.job.now c.args.to c.args.due
    (g.B.Board.sight c.args.self.now.pass) (g.B.Board.sight c.post.new.pass) c.args.self.now _ c.requires refl c.in_ok-post.ensures

pub returns-clause-takes : goal.returns-clause-takes
returns-clause-takes g c =
    took_posted c.args.job.now c.args.to c.args.due (g.B.Board.sight c.args.self.now.pass) (g.B.Board.sight c.post.new.pass)
    c.in_ok-post.ensures

pub returns-in_err-post-clause-done : goal.returns-in_err-post-clause-done
returns-in_err-post-clause-done g c =
    let start = start_of g.B.Board.identity c.args.desk.now in
    let w = record c.args.self.now { pass = c.post.new.pass } in
    match_err c.from_residual.result c.in_err-post.field-0.0
    (λ _. IsDealing start g.S.PathSet.members c.args.job.now (g.B.Board.sight c.post.new.pass) w)
    (λ why. IsStopped start g.S.PathSet.members c.args.job.now why (g.B.Board.sight c.post.new.pass) w)
    c.from_residual.ensures.1
    (sending_refused start g.S.PathSet.members c.args.job.now c.args.to c.args.due (g.B.Board.sight c.args.self.now.pass)
    (g.B.Board.sight c.post.new.pass) c.args.self.now w c.requires refl c.in_err-post.field-0.0 c.in_err-post.ensures)
