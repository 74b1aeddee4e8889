-- The pass's job is one of the state that it finds.
use Rattle.std.proofs.Common.{◌≡◌}
use Rattle.post_ledger.specs.declared.entry.Entry.TheVariants.{Completed}
use Rattle.post_ledger.specs.Orders.{HasJob}
use Rattle.switchboard.specs.Books.{with_new_event}
use Rattle.switchboard.proofs.Inside.{inside, to_lane, to_call, job_inside, completing, completes_on, shows_completed}
use Rattle.switchboard.proofs.Visits.{may_leave}
use Rattle.switchboard.proofs.one_lock.board.OneLockBoard.done.Goals as goal

pub done-requires : goal.done-requires
done-requires g c =
    let h = inside g.M.Mail.fits c.pass.invariant c.in-Ok.ensures c.pass.view_is c.number-number.ensures c.value.ensures.value in
    to_call _ h (λ n x. HasJob n c.args.job x.order) (job_inside _ h c.requires.job)

pub leave-requires-clause-value : goal.leave-requires-clause-value
leave-requires-clause-value g c =
    let y = c.done.new.self in
    let h = inside g.M.Mail.fits c.pass.invariant c.in-Ok.ensures c.pass.view_is c.number-number.ensures c.value.ensures.value in
    let is = to_lane _ h (λ n x. y ≡ with_new_event (Completed n c.args.job) x) c.done.ensures in
    may_leave _ c.in-Ok.guard c.pass.inside.lane c.enter.new.lane y c.in-Ok.ensures (completing _ h (job_inside _ h c.requires.job) is)

pub invariant_of-pass : goal.invariant_of-pass
invariant_of-pass g c =
    let h = inside g.M.Mail.fits c.pass.invariant c.in-Ok.ensures c.pass.view_is c.number-number.ensures c.value.ensures.value in
    completes_on _ h c.leave.ensures c.requires.job c.done.ensures c.calls.ensures c.if-calls-eq0.false

pub returns : goal.returns
returns g c =
    let h = inside g.M.Mail.fits c.pass.invariant c.in-Ok.ensures c.pass.view_is c.number-number.ensures c.value.ensures.value in
    shows_completed _ h c.leave.ensures c.requires.job c.done.ensures c.calls.ensures c.if-calls-eq0.false
