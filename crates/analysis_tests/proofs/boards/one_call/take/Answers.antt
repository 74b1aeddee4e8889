-- The job of a message is a new one.
use Rattle.std.proofs.Common.{refl}
use Rattle.switchboard.proofs.Jobs.{job_new, job_other, take_keeps}
use Rattle.analysis_tests.proofs.Leaving.{leaves_none, leaves_taken}
use Rattle.analysis_tests.proofs.boards.one_call.take.Goals as goal

pub put-requires-clause-place : goal.put-requires-clause-place
put-requires-clause-place g c =
    let h = rw c.in-Ok-Message.field-0-is at c.in-Ok-Message.ensures in
    let s = g.B.Board.sight c.args.pass.now in
    let t = g.B.Board.sight c.take.new.pass in
    λ j at. take_keeps _ s t c.in-Ok-Message.new j _ h (c.requires.job j at)

pub put-requires-clause-job : goal.put-requires-clause-job
put-requires-clause-job g c =
    let h = rw c.in-Ok-Message.field-0-is at c.in-Ok-Message.ensures in
    let s = g.B.Board.sight c.args.pass.now in
    let t = g.B.Board.sight c.take.new.pass in
    let job = c.in-Ok-Message.new in
    (job_new _ s t job _ h, λ at. job_other _ s t job job _ h (c.requires.job job at) refl)

pub returns-in-Ok-Message : goal.returns-in-Ok-Message
returns-in-Ok-Message g c =
    let h = rw c.in-Ok-Message.field-0-is at c.in-Ok-Message.ensures in
    let s = g.B.Board.sight c.args.pass.now in
    let u = g.B.Board.sight c.take.new.pass in
    let t = g.B.Board.sight c.put.new.pass in
    let p = c.put.ensures in
    leaves_taken _ s u t c.args.job.now c.put.new.place c.in-Ok-Message.new _ c.requires.job h p.spends p.place

pub returns-in-Ok-Empty : goal.returns-in-Ok-Empty
returns-in-Ok-Empty g c =
    let h = rw c.in-Ok-Empty.field-0-is at c.in-Ok-Empty.ensures in
    leaves_none _ (g.B.Board.sight c.args.pass.now) (g.B.Board.sight c.take.new.pass) c.args.job.now h.0.0 c.requires.job

pub returns-in-Ok-Closed : goal.returns-in-Ok-Closed
returns-in-Ok-Closed g c =
    let h = rw c.in-Ok-Closed.field-0-is at c.in-Ok-Closed.ensures in
    leaves_none _ (g.B.Board.sight c.args.pass.now) (g.B.Board.sight c.take.new.pass) c.args.job.now h.0.0 c.requires.job

pub returns-in-Ok-Aborted : goal.returns-in-Ok-Aborted
returns-in-Ok-Aborted g c =
    let h = rw c.in-Ok-Aborted.field-0-is at c.in-Ok-Aborted.ensures in
    leaves_none _ (g.B.Board.sight c.args.pass.now) (g.B.Board.sight c.take.new.pass) c.args.job.now h.0.0 c.requires.job
