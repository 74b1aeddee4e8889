use Rattle.std.proofs.Common.{◌≡◌, ◌∙◌, inl, inr, refl, sym, ap}
use Rattle.std.proofs.lemmas.Option.{same_Some, none-some}
use Rattle.flow_graph.specs.Drawn.{graphs_of}
use Rattle.turns.specs.Numbered.{numbered_machine}
use Rattle.turns.specs.Turn as turn
use Rattle.saturation.specs.Items.{Found, below_of}
use Rattle.saturation.specs.Leads.{IsCall}
use Rattle.saturation.proofs.FollowLemmas.{extends_as, extends_then, ok_map, among_more}
use Rattle.saturation.proofs.following.follow_call.Goals as goal

pub returns-in_default-clause-all : goal.returns-in_default-clause-all
returns-in_default-clause-all g c = λ fails x (e, w, calls, is). absurd
    (none-some e (sym c.in_default.is ∙ ((c.called.ensures e w).0 calls).0))

pub returns-in_err-reach-clause-only : goal.returns-in_err-reach-clause-only
returns-in_err-reach-clause-only g c = λ fails.
    let calls = (c.called.ensures c.in-Some.first c.args.top.frame).1 (c.in-Some.is, refl) in
    extends_as _ (IsCall (numbered_machine (graphs_of c.args.graphs.now) fails) c.args.top)
    (λ x same. (c.in-Some.first, c.args.top.frame, calls, inl same)) _ _ c.reach.ensures.grows

pub returns-clause-only : goal.returns-clause-only
returns-clause-only g c = λ fails.
    let calls = (c.called.ensures c.in-Some.first c.args.top.frame).1 (c.in-Some.is, refl) in
    let Calls : Found → Type 0 = IsCall (numbered_machine (graphs_of c.args.graphs.now) fails) c.args.top in
    extends_then Calls _ _ _
    (extends_as _ Calls (λ x same. (c.in-Some.first, c.args.top.frame, calls, inl same)) _ _ c.reach.ensures.grows)
    (extends_as _ Calls (λ x same. (c.in-Some.first, c.args.top.frame, calls, inr same)) _ _ c.reach-2.ensures.grows)

pub returns-clause-all : goal.returns-clause-all
returns-clause-all g c = λ fails. ok_map c.reach-2.result (λ added x (e, w, calls, is).
    let told = (c.called.ensures e w).0 calls in
    let same : c.in-Some.first ≡ e = same_Some _ _ (sym c.in-Some.is ∙ told.0) in
    elim is [
      | inl head ↦ among_more (λ y. y ≡ turn.caller c.args.top.globals c.in-Some.first c.args.top.frame (below_of c.args.top.below)) _ _
          c.reach-2.ensures.grows x (
            _,
            c.in_ok-reach.ensures.added,
            ap (λ z. turn.head c.args.top.globals z (turn.call c.args.top.globals z)) same ∙ sym head,
          )
      | inr waits ↦ (
        _,
        added,
        (λ i. turn.caller c.args.top.globals (same i) (sym told.1 i) (below_of c.args.top.below)) ∙ sym waits,
      )
    ]) c.reach-2.ensures.added
