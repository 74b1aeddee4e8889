-- What the pass has seen last then is what one of the two had.
use Rattle.std.proofs.Common.{sym, ◌∙◌, subst}
use Rattle.switchboard.specs.Passes.{sight_of}
use Rattle.switchboard.specs.Promises.{Learned}
use Rattle.switchboard.proofs.Visits.{shows, shows_now, showing, moved}
use Rattle.switchboard.proofs.Learning.{ends_after, news_is, pass_learned, learned_is}
use Rattle.switchboard.proofs.one_lock.board.OneLockBoard.learn.Goals as goal

pub invariant_of-pass : goal.invariant_of-pass
invariant_of-pass g c =
    let F = g.M.Mail.fits in
    let p = c.pass.invariant in
    let i = c.pass.inside in
    let y = ends_after F p c.learn.new.lane.seen c.learn.ensures.mine in
    pass_learned F c.told.inside.note i.lane c.learn.new.lane i.world.value i.boxes i.kept p c.learn.ensures y.0 y.1

pub returns : goal.returns
returns g c =
    let F = g.M.Mail.fits in
    let p = c.pass.invariant in
    let i = c.pass.inside in
    let a = i.lane in
    let b = c.learn.new.lane in
    let l = c.learn.ensures in
    let y = ends_after F p c.learn.new.lane.seen c.learn.ensures.mine in
    let n = news_is F c.told.inside.note a b i.world.value i.boxes i.kept p l y.0 y.1 in
    let see = sym (shows F a i.world.value i.boxes i.kept p) ∙ c.pass.view_is in
    let now = shows_now F b i.world.value i.boxes i.kept y.0 y.1 (n.before.world ∙ p.same_world) (n.before.boxes ∙ p.same_boxes) in
    let learned = learned_is F c.told.inside.note a b i.world.value i.boxes i.kept p l c.told.invariant y.0 y.1 in
    moved (λ s t. Learned F c.args.told s t) (showing F a i.kept p.last) c.args.pass.now (showing F b i.kept y.0)
    (sight_of b i.world.value i.boxes i.kept) see (sym now)
    (subst (λ q. Learned F q (showing F a i.kept p.last) (showing F b i.kept y.0)) c.told.view_is learned)
