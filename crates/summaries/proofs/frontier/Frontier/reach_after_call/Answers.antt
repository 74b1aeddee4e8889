use Rattle.std.proofs.Common.{◌≡◌, ℕ, Some, inl, inr, refl, sym, ap, ◌∙◌, arith}
use Rattle.std.proofs.lemmas.Option.{same_Some, slice_get_within}
use Rattle.std.proofs.lemmas.Result.{IfOk-weaker}
use Rattle.path_sets.specs.Triples.{Triple, triple}
use Rattle.flow_graph.specs.Drawn.{entered_from, flows_of}
use Rattle.flow_graph.specs.Flows.{entered_by}
use Rattle.flow_graph.specs.Returns.{behind, resumed_at}
use Rattle.flow_graph.specs.declared.call.Call as call
use Rattle.flow_graph.specs.declared.flow.Flow.{Flow}
use Rattle.flow_graph.specs.declared.flow.Flow.TheVariants.{Assign, Test, Assume, Call, Return}
use Rattle.summaries.specs.Grows.{IsBehind}
use Rattle.summaries.proofs.FrontierLemmas.{grows_as}
use Rattle.summaries.proofs.ReachLemmas.{nowhere}
use Rattle.summaries.proofs.frontier.Frontier.reach_after_call.Goals as goal

pub returns : goal.returns
returns g c =
    let graph = c.args.graph.now in
    let site = c.args.site in
    let call = c.in-Call.call in
    let left = c.args.left in
    let reached = triple site.entry c.back.result c.resumed.result in
    let here = c.flow.ensures ∙ ap Some c.in-Call.is in
    let values = c.resumed.ensures.number ∙ sym (ap (λ o. behind o site.values left) here) in
    let same : reached ≡ triple site.entry call.back (resumed_at graph site.point site.values left) =
    λ i. triple site.entry (c.back.ensures i) (values i) in
    let to : (t : Triple) → t ≡ reached → IsBehind graph site left t =
    λ t is. (call.callee, entered_from call site.values, call.back, (Call call, here, refl), is ∙ same) in
    let from : (t : Triple) → IsBehind graph site left t → t ≡ reached =
    λ t (s, e, back, (flow, at, enters), is).
    let called : (s, e, back) ≡ (call.callee, entered_from call site.values, call.back) =
    same_Some (s, e, back) (call.callee, entered_from call site.values, call.back)
    (sym enters ∙ ap (λ w. entered_by w site.values) (same_Some flow (Call call) (sym at ∙ here))) in
    is ∙ ap (λ (k : ℕ × ℕ × ℕ). triple site.entry k.2 (resumed_at graph site.point site.values left)) called ∙ sym same in
    let done = c.reach.ensures.adds in record {
      adds = record {
        ok = IfOk-weaker c.reach.result _ _
            (λ _ grown. grows_as (λ t. t ≡ reached) (IsBehind graph site left) _ _ _ _ to from grown) done.ok;
        only = λ t m. elim (done.only t m) [ inl is ↦ inl (to t is) | inr was ↦ inr was ];
        within = done.within;
        limit = λ e. let (t, is, new, full) = done.limit e in (t, to t is, new, full);
      };
      stays = c.reach.ensures.stays;
    }

-- a flow that is no call enters nothing
no_call : {G : Type 0} (flow : Flow G) (v : ℕ) (k : ℕ × ℕ × ℕ) → ((x : call.Call G) → flow ≡ Call x → ⊥) → entered_by flow v ≡ Some k → ⊥
no_call (Assign a to) v k not enters = cc
no_call (Test side one other) v k not enters = cc
no_call (Assume side to) v k not enters = cc
no_call (Call x) v k not enters = not x refl
no_call Return v k not enters = cc

pub returns-then-site-points : goal.returns-then-site-points
returns-then-site-points g c =
    nowhere g.S.PathSet.members (IsBehind c.args.graph.now c.args.site c.args.left) c.args.self.now
    (λ t (s, e, back, (flow, at, enters), is).
    let inside = slice_get_within (flows_of c.args.graph.now) c.args.site.point flow at in
    omega (arith, inside, c.points.ensures, c.if-site-points.true))
    c.requires

pub returns-in_default : goal.returns-in_default
returns-in_default g c =
    nowhere g.S.PathSet.members (IsBehind c.args.graph.now c.args.site c.args.left) c.args.self.now
    (λ t (s, e, back, (flow, at, enters), is).
    no_call flow c.args.site.values _ (λ x call. c.in_default.not-Call x (same_Some _ _ (sym c.flow.ensures ∙ at) ∙ call)) enters)
    c.requires
