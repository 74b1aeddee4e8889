-- The message is posted under a job of the state that the pass finds, or nothing changes.
use Rattle.std.proofs.Common.{◌<◌, refl, sym, ◌∙◌, arith}
use Rattle.post_ledger.specs.Orders.{HasJob}
use Rattle.switchboard.proofs.Inside.{inside, to_call, boxes_inside, job_inside, posting, posts_on, shows_posted}
use Rattle.switchboard.proofs.Visits.{may_leave}
use Rattle.switchboard.proofs.one_lock.board.OneLockBoard.post.Goals as goal

pub post-answer-requires-clause-job : goal.post-answer-requires-clause-job
post-answer-requires-clause-job g c =
    let h = inside g.M.Mail.fits c.pass.invariant c.in-Ok.ensures c.pass.view_is c.number-number.ensures c.value.ensures.value in
    to_call _ h (λ n x. HasJob n c.args.job.now x.order) (job_inside _ h c.requires.job)

pub post-answer-requires-clause-to : goal.post-answer-requires-clause-to
post-answer-requires-clause-to g c =
    let h = inside g.M.Mail.fits c.pass.invariant c.in-Ok.ensures c.pass.view_is c.number-number.ensures c.value.ensures.value in
    to_call _ h (λ n x. c.args.to < x.boxes) (omega (arith, boxes_inside _ h, c.requires.fits.0))

pub leave-requires-clause-value : goal.leave-requires-clause-value
leave-requires-clause-value g c =
    let y = c.post-answer.new.self in
    let answer = c.post-answer.result in
    let h = inside g.M.Mail.fits c.pass.invariant c.in-Ok.ensures c.pass.view_is c.number-number.ensures c.value.ensures.value in
    let p = posting _ h c.args.to c.args.job.now c.args.message c.post-answer.result y c.requires.job c.requires.fits
    c.post-answer.ensures.ok c.post-answer.ensures.err in
    may_leave _ c.in-Ok.guard c.pass.inside.lane c.enter.new.lane y c.in-Ok.ensures p.keeps

pub invariant_of-pass : goal.invariant_of-pass
invariant_of-pass g c =
    let h = inside g.M.Mail.fits c.pass.invariant c.in-Ok.ensures c.pass.view_is c.number-number.ensures c.value.ensures.value in
    posts_on _ h c.leave.ensures (posting _ h _ _ _ c.post-answer.result c.post-answer.new.self c.requires.job c.requires.fits
    c.post-answer.ensures.ok c.post-answer.ensures.err) c.calls.ensures c.if-calls-eq0.false

pub returns : goal.returns
returns g c =
    let h = inside g.M.Mail.fits c.pass.invariant c.in-Ok.ensures c.pass.view_is c.number-number.ensures c.value.ensures.value in
    shows_posted _ h c.leave.ensures (posting _ h _ _ _ c.post-answer.result c.post-answer.new.self c.requires.job c.requires.fits
    c.post-answer.ensures.ok c.post-answer.ensures.err) c.calls.ensures c.if-calls-eq0.false

pub returns-then-calls-eq0 : goal.returns-then-calls-eq0
returns-then-calls-eq0 g c = (refl, (sym c.calls.ensures ∙ c.if-calls-eq0.true, refl))
