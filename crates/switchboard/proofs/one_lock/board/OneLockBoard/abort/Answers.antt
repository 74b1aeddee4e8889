-- The abort is the pass's own, if there was none before.
use Rattle.std.proofs.Common.{◌≡◌, refl, sym, ◌∙◌}
use Rattle.switchboard.specs.declared.calls.Abort.{Abort}
use Rattle.switchboard.specs.Sights.{abort_of}
use Rattle.switchboard.specs.Promises.{MadeAbort}
use Rattle.switchboard.proofs.Inside.{inside, to_lane, aborting, aborts_on, shows_aborted}
use Rattle.switchboard.proofs.Visits.{shows, may_leave, again_when, showing, moved}
use Rattle.switchboard.proofs.one_lock.board.OneLockBoard.abort.Goals as goal

pub returns-then-not-pass : goal.returns-then-not-pass
returns-then-not-pass g c =
    let F = g.M.Mail.fits in
    let p = c.pass.invariant in
    let i = c.pass.inside in
    let a = i.lane in
    let see = sym (shows F a i.world.value i.boxes i.kept p) ∙ c.pass.view_is in
    moved (λ s t.
    MadeAbort F record { by = s.number; cause = c.args.cause } s t) (showing F a i.kept p.last) c.args.pass.now
    (showing F a i.kept p.last) c.args.pass.now see see
    (again_when F record { by = a.number; cause = c.args.cause } a i.world.value i.boxes i.kept p c.if-not-pass.true)

pub leave-requires-clause-value : goal.leave-requires-clause-value
leave-requires-clause-value g c =
    let i = c.pass.inside in
    let y = c.abort.new.self in
    let h = inside g.M.Mail.fits c.pass.invariant c.in-Ok.ensures c.pass.view_is c.number-number.ensures c.value.ensures.value in
    let q : Abort = record { by = i.lane.number; cause = c.args.cause } in
    let is =
    to_lane _ h (λ n x. y ≡ record x { aborted = abort_of x.aborted (record { by = n; cause = c.args.cause }) }) c.abort.ensures in
    may_leave _ c.in-Ok.guard i.lane c.enter.new.lane y c.in-Ok.ensures (aborting _ h q refl is)

pub invariant_of-pass : goal.invariant_of-pass
invariant_of-pass g c =
    let h = inside g.M.Mail.fits c.pass.invariant c.in-Ok.ensures c.pass.view_is c.number-number.ensures c.value.ensures.value in
    aborts_on _ h c.leave.ensures c.args.cause c.abort.ensures

pub returns : goal.returns
returns g c =
    let h = inside g.M.Mail.fits c.pass.invariant c.in-Ok.ensures c.pass.view_is c.number-number.ensures c.value.ensures.value in
    shows_aborted _ h c.leave.ensures c.args.cause c.abort.ensures c.if-not-pass.false
