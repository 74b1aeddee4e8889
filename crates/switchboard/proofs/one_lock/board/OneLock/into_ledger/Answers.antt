-- The passes' lanes are all lanes of the lock.
use Rattle.std.proofs.Common.{◌<◌, ◌∙◌, sym, ap, subst, arith}
use Rattle.std.specs.Vec.Iter.{into_iter_items}
use Rattle.ticket_lock.specs.Proved.Facts.{at_inside}
use Rattle.switchboard.specs.declared.one_lock.lanes.Lanes.{Lanes}
use Rattle.switchboard.specs.Promises.{AreAll}
use Rattle.switchboard.proofs.Settling.{settles_is, idle_along, drained_length, all_pairs, Pairs}
use Rattle.switchboard.proofs.one_lock.board.OneLock.into_ledger.Given as given
use Rattle.switchboard.proofs.one_lock.board.OneLock.into_ledger.Goals as goal

-- the passes that are drained are all of the board's
all_of : (g : given.Over) (c : goal.After-into_iter g)
    → AreAll c.args.self.lock.id c.args.self.lock.lanes (into_iter_items c.into_iter.result)
all_of g c =
    subst (AreAll c.args.self.lock.id c.args.self.lock.lanes)
    (sym (c.into_iter.ensures.rest ∙ ap (λ v. v.items) c.replace-all.ensures.value)) c.requires

pub close-book-requires-clause-idle : goal.close-book-requires-clause-idle
close-book-requires-clause-idle g c =
    idle_along g.M.Mail.fits
    (λ (s : Lanes _ _ _). s.passes) c.args.self.lock.id c.args.self.lock.lanes record { passes = c.into_iter.result } (all_of g c)

pub close-book-requires-clause-all : goal.close-book-requires-clause-all
close-book-requires-clause-all g c =
    drained_length g.M.Mail.fits
    (λ (s : Lanes _ _ _). s.passes) c.args.self.lock.id c.args.self.lock.lanes record { passes = c.into_iter.result } (all_of g c)

pub returns-clause-settles : goal.returns-clause-settles
returns-clause-settles g c =
    let F = g.M.Mail.fits in
    let id = c.args.self.lock.id in
    let boxes = c.args.self.lock.lanes in
    let rest = c.into_iter.ensures.rest ∙ ap (λ v. v.items) c.replace-all.ensures.value in
    let all = subst (AreAll id boxes) (sym rest) c.requires in
    let q = c.close-book.ensures in
    let len = drained_length F (λ (s : Lanes _ _ _). s.passes) id boxes record { passes = c.into_iter.result } all q.0 q.1 in
    let pairs = all_pairs F (λ (s : Lanes _ _ _). s.passes) record { passes = c.into_iter.result } q.0 q.1 in
    let some_of : 0 < boxes = omega (arith, len, at_inside q.0 q.2.place q.2.longest q.2.there) in
    settles_is F id boxes c.args.passes.now.items q.0 c.close-book.result c.into_ledger.result.histories.items c.into_ledger.result.closed
    some_of c.requires
    (subst (Pairs F q.0) rest pairs) q.3 q.4 c.into_ledger.ensures.parts c.into_ledger.ensures.closed
