use Rattle.std.proofs.Common.{refl, arith}
use Rattle.flow_graph.specs.Drawn.{graphs_of}
use Rattle.turns.specs.Numbered.{numbered_machine, Failures}
use Rattle.saturation.specs.Items.{Found}
use Rattle.saturation.specs.Leads.{IsReturn}
use Rattle.saturation.specs.declared.paired.Resting.{Resting}
use Rattle.saturation.proofs.FollowLemmas.{each_done, seen_only, seen_all}
use Rattle.saturation.proofs.following.return_to.Goals as goal

pub loop-caller-preserved : goal.loop-caller-preserved
loop-caller-preserved g c =
    let V : Failures → Resting → Found → Type 0 =
    λ fails. IsReturn (numbered_machine (graphs_of c.args.graphs.now) fails) c.args.finished in (
      λ fails. seen_all (V fails) (V fails) (λ one. one) (λ one. refl) c.args.callers.now c.loop-caller.caller-index _
          c.loop-caller-test.true _ refl _ _ (c.loop-caller.invariant.0 fails) (c.in_ok-reach_resumed.ensures.only fails)
          (c.in_ok-reach_resumed.ensures.all fails),
      λ fails. seen_only (V fails) (V fails) (λ one. one) (λ one. refl) c.args.callers.now c.loop-caller.caller-index _
          c.loop-caller-test.true _ refl _ _ _ (c.loop-caller.invariant.1 fails) (c.in_ok-reach_resumed.ensures.only fails),
      omega (arith, c.loop-caller.invariant.2, c.in_ok-reach_resumed.ensures.work),
    )

pub returns-in_err-reach_resumed-clause-only : goal.returns-in_err-reach_resumed-clause-only
returns-in_err-reach_resumed-clause-only g c =
    let V : Failures → Resting → Found → Type 0 =
    λ fails. IsReturn (numbered_machine (graphs_of c.args.graphs.now) fails) c.args.finished in
    λ fails. seen_only (V fails) (V fails) (λ one. one) (λ one. refl) c.args.callers.now c.loop-caller.caller-index _
    c.loop-caller-test.true _ refl _ _ _ (c.loop-caller.invariant.1 fails) (c.in_err-reach_resumed.ensures.only fails)

pub returns-clause-all : goal.returns-clause-all
returns-clause-all g c = λ fails. each_done (IsReturn (numbered_machine (graphs_of c.args.graphs.now) fails) c.args.finished)
    c.args.callers.now c.loop-caller.caller-index _ c.loop-caller-test.false (c.loop-caller.invariant.0 fails)
