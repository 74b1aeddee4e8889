use Rattle.std.proofs.Common.{refl, arith}
use Rattle.flow_graph.specs.Drawn.{graphs_of}
use Rattle.turns.specs.Numbered.{numbered_machine, Failures}
use Rattle.saturation.specs.Items.{Found}
use Rattle.saturation.specs.Leads.{IsReturn}
use Rattle.saturation.specs.declared.paired.Finished.{Finished}
use Rattle.saturation.proofs.FollowLemmas.{each_done, seen_only, seen_all}
use Rattle.saturation.proofs.following.return_of.Goals as goal

pub loop-one-preserved : goal.loop-one-preserved
loop-one-preserved g c =
    let V : Failures → Finished → Found → Type 0 =
    λ fails one. IsReturn (numbered_machine (graphs_of c.args.graphs.now) fails) one c.args.caller in (
      λ fails. seen_all (V fails) (V fails) (λ one. one) (λ one. refl) c.args.finished.now c.loop-one.one-index _
          c.loop-one-test.true _ refl _ _ (c.loop-one.invariant.0 fails) (c.in_ok-reach_resumed.ensures.only fails)
          (c.in_ok-reach_resumed.ensures.all fails),
      λ fails. seen_only (V fails) (V fails) (λ one. one) (λ one. refl) c.args.finished.now c.loop-one.one-index _
          c.loop-one-test.true _ refl _ _ _ (c.loop-one.invariant.1 fails) (c.in_ok-reach_resumed.ensures.only fails),
      omega (arith, c.loop-one.invariant.2, c.in_ok-reach_resumed.ensures.work),
    )

pub returns-in_err-reach_resumed-clause-only : goal.returns-in_err-reach_resumed-clause-only
returns-in_err-reach_resumed-clause-only g c =
    let V : Failures → Finished → Found → Type 0 =
    λ fails one. IsReturn (numbered_machine (graphs_of c.args.graphs.now) fails) one c.args.caller in
    λ fails. seen_only (V fails) (V fails) (λ one. one) (λ one. refl) c.args.finished.now c.loop-one.one-index _
    c.loop-one-test.true _ refl _ _ _ (c.loop-one.invariant.1 fails) (c.in_err-reach_resumed.ensures.only fails)

pub returns-clause-all : goal.returns-clause-all
returns-clause-all g c = λ fails. each_done (λ one. IsReturn (numbered_machine (graphs_of c.args.graphs.now) fails) one c.args.caller)
    c.args.finished.now c.loop-one.one-index _ c.loop-one-test.false (c.loop-one.invariant.0 fails)
