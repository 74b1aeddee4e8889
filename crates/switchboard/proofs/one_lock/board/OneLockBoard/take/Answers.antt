-- The pass returns what the state that it finds has for it.
use Rattle.std.proofs.Common.{◌<◌}
use Rattle.switchboard.specs.Books.{TakeAnswers}
use Rattle.switchboard.proofs.Inside.{inside, to_lane, to_call, taking, takes_on, shows_taken}
use Rattle.switchboard.proofs.Visits.{may_leave}
use Rattle.switchboard.proofs.one_lock.board.OneLockBoard.take.Goals as goal

pub take-answer-requires : goal.take-answer-requires
take-answer-requires g c =
    let h = inside g.M.Mail.fits c.pass.invariant c.in-Ok.ensures c.pass.view_is c.number-number.ensures c.value.ensures.value in
    to_call g.M.Mail.fits h (λ n x. n < x.boxes) h.near

pub leave-requires-clause-value : goal.leave-requires-clause-value
leave-requires-clause-value g c =
    let y = c.take-answer.new.self in
    let h = inside g.M.Mail.fits c.pass.invariant c.in-Ok.ensures c.pass.view_is c.number-number.ensures c.value.ensures.value in
    let is = to_lane _ h (λ n x. TakeAnswers n c.take-answer.result x y) c.take-answer.ensures in
    may_leave _ c.in-Ok.guard c.pass.inside.lane c.enter.new.lane y c.in-Ok.ensures (taking _ h c.take-answer.result is)

pub invariant_of-pass : goal.invariant_of-pass
invariant_of-pass g c =
    let h = inside g.M.Mail.fits c.pass.invariant c.in-Ok.ensures c.pass.view_is c.number-number.ensures c.value.ensures.value in
    takes_on _ h c.leave.ensures c.take-answer.result c.take-answer.ensures c.calls.ensures c.if-calls-eq0.false

pub returns : goal.returns
returns g c =
    let h = inside g.M.Mail.fits c.pass.invariant c.in-Ok.ensures c.pass.view_is c.number-number.ensures c.value.ensures.value in
    shows_taken _ h c.leave.ensures c.take-answer.result c.take-answer.ensures c.calls.ensures c.if-calls-eq0.false
