use Rattle.std.proofs.Common.{refl, arith}
use Rattle.flow_graph.specs.Drawn.{graphs_of}
use Rattle.turns.specs.Numbered.{numbered_machine, Failures}
use Rattle.saturation.specs.Items.{Found}
use Rattle.saturation.specs.Leads.{IsReturn, resting_in}
use Rattle.saturation.specs.declared.paired.Resting.{Resting}
use Rattle.saturation.proofs.FollowLemmas.{each_done, seen_only, seen_all}
use Rattle.saturation.proofs.following.come_out.Goals as goal

pub loop-head-preserved : goal.loop-head-preserved
loop-head-preserved g c =
    let V : Failures → Resting → Found → Type 0 =
    λ fails. IsReturn (numbered_machine (graphs_of c.args.graphs.now) fails) c.args.finished in (
      λ fails. seen_all (λ one. V fails (resting_in one)) (V fails) resting_in (λ one. refl) c.args.heads.now c.loop-head.head-index _
          c.loop-head-test.true c.resting.result c.resting.ensures _ _ (c.loop-head.invariant.0 fails)
          (c.in_ok-reach_resumed.ensures.only fails)
          (c.in_ok-reach_resumed.ensures.all fails),
      λ fails. seen_only (λ one. V fails (resting_in one)) (V fails) resting_in (λ one. refl) c.args.heads.now c.loop-head.head-index _
          c.loop-head-test.true c.resting.result c.resting.ensures _ _ _ (c.loop-head.invariant.1 fails)
          (c.in_ok-reach_resumed.ensures.only fails),
      omega (arith, c.loop-head.invariant.2, c.in_ok-reach_resumed.ensures.work),
    )

pub returns-in_err-reach_resumed-clause-only : goal.returns-in_err-reach_resumed-clause-only
returns-in_err-reach_resumed-clause-only g c =
    let V : Failures → Resting → Found → Type 0 =
    λ fails. IsReturn (numbered_machine (graphs_of c.args.graphs.now) fails) c.args.finished in
    λ fails. seen_only (λ one. V fails (resting_in one)) (V fails) resting_in (λ one. refl) c.args.heads.now c.loop-head.head-index _
    c.loop-head-test.true c.resting.result c.resting.ensures _ _ _ (c.loop-head.invariant.1 fails)
    (c.in_err-reach_resumed.ensures.only fails)

pub returns-clause-all : goal.returns-clause-all
returns-clause-all g c =
    λ fails. each_done (λ one. IsReturn (numbered_machine (graphs_of c.args.graphs.now) fails) c.args.finished (resting_in one))
    c.args.heads.now c.loop-head.head-index _ c.loop-head-test.false (c.loop-head.invariant.0 fails)
