-- One more job is begun.
use Rattle.std.proofs.Common.{◌≤◌, ◌+◌, ◌∷◌, [], IsSome, IfSome, length, ap, sym, subst, arith, length-append}
use Rattle.jobs.specs.Jobs.{HasNoThread, WasBegun}
use Rattle.jobs.proofs.ResultLemmas.{AllBehind, behind_more, each_more}
use Rattle.jobs.proofs.BeginLemmas.{has_shown, refused_before, shown_near}
use Rattle.jobs.proofs.jobs.begin_all.Goals as goal

pub loop-slot-preserved : goal.loop-slot-preserved
loop-slot-preserved g c =
    let i = c.loop-slot.invariant in
    let items = c.loop-slot.begun.items in
    let one = c.begin.result in
    let pushed = c.push_reserved.ensures.items in
    let behind = refused_before c.loop-slot.refused one c.begin.ensures.behind in
    let now = λ (has : HasNoThread one). subst IsSome (sym c.begin.ensures.refused) (has_shown one has) in (
      omega (arith, ap length pushed, length-append items (one ∷ []), i.0),
      omega (arith, i.1),
      omega (arith, i.2, c.push_reserved.ensures.capacity),
      subst (λ r. IfSome r (λ none. none.first ≤ c.loop-slot.number + 1)) (sym c.begin.ensures.refused)
          (shown_near g.J.Job.runs g.J.Job.declines g.L.Lineup.jobs c.loop-slot.number one c.begin.ensures.begun),
      each_more (WasBegun g.J.Job.declines g.L.Lineup.jobs) items c.push_reserved.new.self.items one c.loop-slot.number pushed
          (omega (arith, i.0, i.1)) c.begin.ensures.begun i.4,
      subst (AllBehind HasNoThread) (sym pushed) (behind_more HasNoThread items one i.5 (λ k b at has. behind (i.6 k b at has))),
      each_more (λ k b. HasNoThread b → IsSome c.begin.new.refused) items c.push_reserved.new.self.items one c.loop-slot.number pushed
          (omega (arith, i.0, i.1)) now (λ k b at has. now (behind (i.6 k b at has))),
    )
