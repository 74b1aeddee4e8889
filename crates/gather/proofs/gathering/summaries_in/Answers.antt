-- One more lane, with a summary or without.
use Rattle.std.proofs.Common.{◌++◌, ◌∷◌, [], sym, subst, arith}
use Rattle.std.specs.Vec.Iter.{into_iter_items}
use Rattle.gather.specs.Gathered.{AreRead}
use Rattle.jobs.proofs.ResultLemmas.{come, come_same}
use Rattle.gather.proofs.ReadingLemmas.{read_more, read_other, not_closed}
use Rattle.gather.proofs.gathering.summaries_in.Goals as goal

pub loop-finding-preserved-in-Continue-1 : goal.loop-finding-preserved-in-Continue-1
loop-finding-preserved-in-Continue-1 g c =
    let yielded = c.loop-finding.yielded in
    let i = c.loop-finding.invariant in (
      come yielded (into_iter_items c.loop-finding.finding-iterator) (into_iter_items c.next.new.self) c.args.findings.items
          c.in-Some.finding i.0 c.in-Some.ensures.steps.0,
      subst (AreRead (yielded ++ c.in-Some.finding ∷ [])) (sym c.in_ok-push-in-Closed.ensures.items)
          (read_more yielded c.loop-finding.summaries.items c.in-Some.finding c.in-Closed.summary c.in-Closed.is i.1),
    )

pub loop-finding-preserved : goal.loop-finding-preserved
loop-finding-preserved g c =
    let yielded = c.loop-finding.yielded in
    let i = c.loop-finding.invariant in (
      come yielded (into_iter_items c.loop-finding.finding-iterator) (into_iter_items c.next.new.self) c.args.findings.items
          c.in-Some.finding i.0 c.in-Some.ensures.steps.0,
      read_other yielded c.loop-finding.summaries.items c.in-Some.finding (not_closed c.in-Some.finding c.in-Aborted.is),
    )

pub returns : goal.returns
returns g c =
    let it = c.loop-finding.finding-iterator in
    subst (λ fs. AreRead fs c.loop-finding.summaries.items) (come_same c.loop-finding.yielded (into_iter_items it)
    c.args.findings.items c.loop-finding.invariant.0 (omega (arith, c.in-None.ensures.steps.0, it.rest.ok.0)))
    c.loop-finding.invariant.1
