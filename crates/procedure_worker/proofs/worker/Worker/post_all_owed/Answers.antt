-- The table owes no message, or the worker stops.
use Rattle.std.proofs.Common.{refl, ◌∙◌, subst}
use Rattle.std.specs.Bool.{OnFalse}
use Rattle.summaries.specs.Tables.{IsQuiet}
use Rattle.procedure_worker.specs.Works.{start_of}
use Rattle.procedure_worker.proofs.Works.{turn_dealt, job_to_pass, stopped_ends}
use Rattle.procedure_worker.proofs.worker.Worker.post_all_owed.Goals as goal

pub returns-in-Ok-false : goal.returns-in-Ok-false
returns-in-Ok-false g c =
    let w = c.answer.new.self in
    let answered = c.in-Ok-false.ensures in
    turn_dealt (start_of g.B.Board.identity c.args.desk.now) g.S.PathSet.members c.args.job c.turn.result
    (g.B.Board.sight c.args.self.now.pass) (g.B.Board.sight w.pass) (g.B.Board.sight c.turn.new.pass) w c.turn.new.pass
    answered.dealing
    (subst (λ more. OnFalse more (IsQuiet g.S.PathSet.members w.table)) c.in-Ok-false.field-0-test answered.none)
    (answered.takes ∙ c.loop.invariant.0.1) c.turn.ensures

pub returns-in-Err : goal.returns-in-Err
returns-in-Err g c =
    stopped_ends (start_of g.B.Board.identity c.args.desk.now) g.S.PathSet.members c.args.job c.in-Err.why c.give_up.result
    (g.B.Board.sight c.answer.new.self.pass) (g.B.Board.sight c.give_up.new.pass) c.answer.new.self c.in-Err.ensures
    c.give_up.ensures

pub loop-init : goal.loop-init
loop-init g c = ((c.requires, refl), tt, tt)

pub loop-preserved : goal.loop-preserved
loop-preserved g c = ((c.in-Ok-true.ensures.dealing, c.in-Ok-true.ensures.takes ∙ c.loop.invariant.0.1), tt, tt)

pub give_up-requires : goal.give_up-requires
give_up-requires g c =
    let stopped = c.in-Err.ensures in record {
      board = stopped.stands.pass.board;
      job = job_to_pass (start_of g.B.Board.identity c.args.desk.now) (g.B.Board.sight c.answer.new.self.pass) c.args.job
          stopped.stands.pass stopped.has;
    }

pub turn-requires : goal.turn-requires
turn-requires g c =
    let dealing = c.in-Ok-false.ensures.dealing in
    let pass = dealing.sent.0.stands.pass in record {
      board = pass.board;
      job = job_to_pass (start_of g.B.Board.identity c.args.desk.now) (g.B.Board.sight c.answer.new.self.pass) c.args.job pass
          dealing.has;
    }
