-- The table answered a message, or failed.
use Rattle.std.proofs.Common.{◌≡◌, subst, IfSome, IfNone}
use Rattle.summaries.specs.Tables.{answers_of, IsAnswer, IsQuiet}
use Rattle.procedure_worker.specs.Works.{start_of}
use Rattle.procedure_worker.proofs.Works.{answered_fault, answered_none, answered_sending, match_err}
use Rattle.procedure_worker.proofs.worker.Worker.answer.Goals as goal

pub returns-in-Err : goal.returns-in-Err
returns-in-Err g c =
    answered_fault (start_of g.B.Board.identity c.args.desk.now) g.S.PathSet.members c.args.job.now
    (g.B.Board.sight c.args.self.now.pass) c.args.self.now c.next.new.table c.requires c.in-Err.why c.in-Err.ensures.fails

pub send-requires : goal.send-requires
send-requires g c =
    answered_sending (start_of g.B.Board.identity c.args.desk.now) g.S.PathSet.members c.args.job.now
    (g.B.Board.sight c.args.self.now.pass) c.args.self.now c.next.new.table c.requires c.in-Ok-Some.to c.in-Ok-Some.due
    c.in-Ok-Some.ensures.keeps
    (subst (λ o. IfSome o (λ m. IsAnswer c.args.self.now.table c.next.new.table m.0 m.1)) c.in-Ok-Some.field-0-is
    c.in-Ok-Some.ensures.some)

pub returns-in-Ok-None : goal.returns-in-Ok-None
returns-in-Ok-None g c =
    let w = c.args.self.now in
    let y = c.next.new.table in
    answered_none (start_of g.B.Board.identity c.args.desk.now) g.S.PathSet.members c.args.job.now (g.B.Board.sight w.pass) w y
    c.requires c.in-Ok-None.ensures.keeps
    (subst (λ o. IfNone o (answers_of y ≡ answers_of w.table)) c.in-Ok-None.field-0-is c.in-Ok-None.ensures.none)
    (subst (λ o. IfNone o (IsQuiet g.S.PathSet.members y)) c.in-Ok-None.field-0-is c.in-Ok-None.ensures.quiet)

pub returns-in_ok-send-in-Ok-Some : goal.returns-in_ok-send-in-Ok-Some
returns-in_ok-send-in-Ok-Some g c =
    record { dealing = c.in_ok-send-in-Ok-Some.ensures.done; none = tt; takes = c.in_ok-send-in-Ok-Some.ensures.takes }

pub returns-in_err-send-in-Ok-Some : goal.returns-in_err-send-in-Ok-Some
returns-in_err-send-in-Ok-Some g c =
    match_err c.from_residual.result c.in_err-send-in-Ok-Some.field-0.0 _ _ c.from_residual.ensures.1
    c.in_err-send-in-Ok-Some.ensures.done
