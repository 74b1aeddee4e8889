-- This is the result of one more job.
use Rattle.std.proofs.Common.{◌≡◌, ◌∷◌, [], Some, length, slice_get, refl, ap, ◌∙◌, subst, arith, length-append}
use Rattle.std.proofs.lemmas.Option.{slice_get_within}
use Rattle.std.specs.Vec.Iter.{into_iter_items}
use Rattle.jobs.proofs.BeginLemmas.{Ended, ended_run, ended_none, have_come}
use Rattle.jobs.proofs.ResultLemmas.{come, came_alone, came_at, came_near, come_all, more_by_place}
use Rattle.jobs.proofs.jobs.end_all.Goals as goal
use Rattle.jobs.proofs.jobs.end_all.Goals.{in-InThread, in-Without}

pub loop-one-init : goal.loop-one-init
loop-one-init g c =
    let none = ap length c.requires.empty in (
      c.into_iter-one-iterator.ensures.into_iter_gives.0,
      none,
      λ q b d there here. let within = slice_get_within c.args.results.now.items q d here in absurd (omega (arith, within, none)),
      c.requires.room,
    )

pub push_reserved-requires : goal.push_reserved-requires
push_reserved-requires g c =
    let i = c.loop-one.invariant in
    let near = came_near c.loop-one.yielded (into_iter_items c.loop-one.one-iterator) (into_iter_items c.next.new.self) c.args.begun.items
    c.in-Some.one _ i.0 c.in-Some.ensures.steps.0 i.1 in
    omega (arith, near, i.3, c.loop-one.results.ok.0)

pub loop-one-preserved : goal.loop-one-preserved
loop-one-preserved g c =
    let i = c.loop-one.invariant in
    let pushed = c.push_reserved.ensures.items in
    let rest = into_iter_items c.loop-one.one-iterator in
    let left = into_iter_items c.next.new.self in
    let result = c.match-one.push_reserved in
    let one = c.in-Some.one in
    let n = length c.loop-one.yielded in
    let at = came_at c.loop-one.yielded rest left c.args.begun.items one n i.0 c.in-Some.ensures.steps.0 refl in
    let begun = c.requires.begun.each n one at in (
      come c.loop-one.yielded rest left c.args.begun.items one i.0 c.in-Some.ensures.steps.0,
      omega (
        arith,
        ap length pushed,
        length-append c.loop-one.results.items (result ∷ []),
        i.1,
        length-append c.loop-one.yielded (one ∷ []),
      ),
      λ q b d there here.
          more_by_place (Ended g.J.Job.runs g.J.Job.declines g.L.Lineup.jobs) c.args.begun.items c.loop-one.results.items result n i.1
          (λ a at_a.
          subst (λ z. Ended g.J.Job.runs g.J.Job.declines g.L.Lineup.jobs n z result)
          (came_alone c.loop-one.yielded rest left c.args.begun.items one a i.0 c.in-Some.ensures.steps.0 at_a)
          (elim c.match-one.branch [
            | in-InThread w ↦ ended_run g.J.Job.runs g.J.Job.declines g.L.Lineup.jobs n one result _ _ w.in-InThread.is
                w.push_reserved-is w.join.ensures begun
            | in-Without w ↦ ended_none g.J.Job.runs g.J.Job.declines g.L.Lineup.jobs n one result _ _ w.in-Without.is
                w.push_reserved-is begun
          ]))
          i.2 q b d there (subst (λ l. slice_get l q ≡ Some d) pushed here),
      omega (arith, i.3, c.push_reserved.ensures.capacity),
    )

pub loop-one-smaller : goal.loop-one-smaller
loop-one-smaller g c =
    omega (
      arith,
      ap length c.in-Some.ensures.steps.0,
      c.loop-one.one-iterator.rest.ok.0,
      c.next.new.self.rest.ok.0,
    )

pub returns : goal.returns
returns g c =
    let i = c.loop-one.invariant in
    let all = come_all c.loop-one.yielded (into_iter_items c.loop-one.one-iterator) c.args.begun.items i.0
    (omega (arith, c.in-None.ensures.steps.0, c.loop-one.one-iterator.rest.ok.0)) in
    have_come g.J.Job.runs g.J.Job.declines g.L.Lineup.jobs c.args.begun.items c.loop-one.results.items c.requires.begun
    (i.1 ∙ all) i.2
