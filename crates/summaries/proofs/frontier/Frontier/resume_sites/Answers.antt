use Rattle.std.proofs.Common.{Err, refl, sym, ap, ◌∙◌, arith, rules}
use Rattle.summaries.specs.Grows.{IsBehind}
use Rattle.summaries.proofs.FrontierLemmas.{each_next, each_failed, each_done, adds_for, grows_for, fault_of}
use Rattle.summaries.proofs.ReachLemmas.{still_within, reaches_on, stays_on}
use Rattle.summaries.proofs.frontier.Frontier.resume_sites.Goals as goal

pub returns-in_err-reach_after_call : goal.returns-in_err-reach_after_call
returns-in_err-reach_after_call g c =
    reaches_on g.S.PathSet.members c.loop-site.invariant.2 c.in_err-reach_after_call.ensures.stays
    (each_failed (λ site. IsBehind c.args.graph.now site c.args.left) c.args.sites.now c.loop-site.site-index _ _ _ _
    c.loop-site.invariant.0 c.site-item.result c.loop-site-test.true _ _
    (adds_for (λ site. IsBehind c.args.graph.now site c.args.left) (c.edge.ensures ∙ c.site-item.is) c.in_err-reach_after_call.ensures.adds)
    (search rules)
    (λ e. ap Err (sym (fault_of _ _ _ c.from_residual.ensures.1 e))))

pub loop-site-preserved : goal.loop-site-preserved
loop-site-preserved g c = (
  each_next (λ site. IsBehind c.args.graph.now site c.args.left) c.args.sites.now c.loop-site.site-index _ _ _ _ c.loop-site.invariant.0
      c.site-item.result c.loop-site-test.true _ _
      (grows_for (λ site. IsBehind c.args.graph.now site c.args.left) (c.edge.ensures ∙ c.site-item.is)
      c.in_ok-reach_after_call.ensures.adds.ok),
  still_within g.S.PathSet.members c.in_ok-reach_after_call.ensures,
  stays_on c.loop-site.invariant.2 c.in_ok-reach_after_call.ensures.stays,
)

pub returns : goal.returns
returns g c =
    reaches_on g.S.PathSet.members c.loop-site.invariant.2 (record { edges = refl; pending = refl; limit = refl })
    (each_done (λ site. IsBehind c.args.graph.now site c.args.left) c.args.sites.now c.loop-site.site-index
    _ _ _ _ c.loop-site.invariant.0 _
    (omega (arith, c.loop-site-test.false, c.loop-site.auto.site-index-end)) c.loop-site.invariant.1)
