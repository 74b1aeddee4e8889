-- The choices of a flow, and the moves of a top frame.
use Rattle.std.proofs.Common.{◌≡◌, ◌↔◌, ◌≤◌, ◌<◌, ◌+◌, ℕ, Bool, false, true≢false, Some, None, List, slice_get, inl, inr, refl, sym, ap}
use Rattle.std.proofs.Common.{◌∙◌, subst, arith}
use Rattle.std.specs.Bool.{IsTrue}
use Rattle.std.proofs.lemmas.Bool.{cases_lt}
use Rattle.std.proofs.Math.Nat.{eq-or-lt_of_le}
use Rattle.std.proofs.lemmas.Option.{same_Some, none-some}
use Rattle.flow_graph.specs.Drawn.{flows_of}
use Rattle.flow_graph.specs.Flows.{last_of, next_of}
use Rattle.flow_graph.specs.declared.flow.Flow.{Flow}
use Rattle.flow_graph.specs.declared.graph.Graph.{Graph}
use Rattle.turns.specs.Numbered.{numbered_machine, Failures, valuation_at, globals_in, places_in, placed}
use Rattle.saturation.specs.Items.{Found, Extends}
use Rattle.saturation.specs.Leads.{IsMove, IsNext, HaveAll, head}
use Rattle.saturation.specs.declared.item.Item.{Item}
use Rattle.saturation.specs.declared.item.Top.{Top}
use Rattle.saturation.proofs.StepLemmas.{same_flow}
use Rattle.saturation.proofs.FollowLemmas.{have_more}

module _ {A : Type 0} (graphs : List (Graph A)) (fails : Failures) (top : Top) (graph : Graph A) (flow : Flow A) (values : ℕ)
    (here : slice_get graphs top.frame.procedure ≡ Some graph) (at : slice_get (flows_of graph) top.frame.point ≡ Some flow)
    (is : values ≡ valuation_at top.globals top.frame) where
  -- a choice is a move
  pub next_is_move : (choice : ℕ) → choice ≤ last_of flow → (x : Found) → IsNext graph top (next_of flow values choice) x
      → IsMove (numbered_machine graphs fails) top x
  next_is_move choice most x (point, after, next, same) = (
    globals_in graph after,
    placed top.frame.procedure point (places_in graph after),
    (graph, flow, here, at, (choice, point, after, most, ap (λ v. next_of flow v choice) (sym is) ∙ next, refl, refl)),
    same,
  )

  -- a move is a choice
  pub move_is_next : (x : Found) → IsMove (numbered_machine graphs fails) top x
      → (choice : ℕ) × (choice ≤ last_of flow) × IsNext graph top (next_of flow values choice) x
  move_is_next x (h, k, (graph', flow', here', at', (choice, point, after, most, next, same_h, same_k)), same) =
      let same_graphs = same_flow graphs top.frame graph graph' flow flow' here at here' at' in
      let most' : choice ≤ last_of flow = subst (λ z. choice ≤ last_of z) (sym same_graphs.1) most in
      let next' : next_of flow values choice ≡ Some (point, after) =
      (λ i. next_of (same_graphs.1 i) (is i) choice) ∙ next in (
        choice,
        most',
        (
          point,
          after,
          next',
          same ∙ (λ i. head (same_h i) (same_k i) top.below)
              ∙ (λ i.
              head (globals_in ((sym same_graphs.0) i) after)
              (placed top.frame.procedure point (places_in ((sym same_graphs.0) i) after)) top.below),
        ),
      )

-- where there is no flow there is no move
pub no_move : {A : Type 0} (graphs : List (Graph A)) (fails : Failures) (top : Top) (graph : Graph A)
    → slice_get graphs top.frame.procedure ≡ Some graph
    → slice_get (flows_of graph) top.frame.point ≡ None → (x : Found) → IsMove (numbered_machine graphs fails) top x → ⊥
no_move graphs fails top graph here none x (h, k, (graph', flow', here', at', more), same) =
    let same_graph : graph ≡ graph' = same_Some graph graph' (sym here ∙ here') in
    none-some flow' (sym none ∙ ap (λ z. slice_get (flows_of z) top.frame.point) same_graph ∙ at')

-- where the choices before one have been followed, and this one now, all up to it have
pub choice_before : {A : Type 0} (graph : Graph A) (top : Top) (flow : Flow A) (values now : ℕ) (P : Found → Type 0) (ys zs : List Item)
    → ((choice : ℕ) → choice < now → HaveAll (IsNext graph top (next_of flow values choice)) ys) → Extends P ys zs
    → HaveAll (IsNext graph top (next_of flow values now)) zs → (choice : ℕ) → choice < now + 1
    → HaveAll (IsNext graph top (next_of flow values choice)) zs
choice_before graph top flow values now P ys zs before grows have choice less =
    elim (eq-or-lt_of_le (let most : choice ≤ now = omega (arith, less) in most)) [
      | inr earlier ↦ have_more (IsNext graph top (next_of flow values choice)) P ys zs grows (before choice earlier)
      | inl same ↦ subst (λ n. HaveAll (IsNext graph top (next_of flow values n)) zs) (sym same) have
    ]

-- a choice with none after it is the last
pub is_last : (k last : ℕ) (more : Bool) → (IsTrue more ↔ (k < last)) → more ≡ false → last ≤ k
is_last k last more tells none = elim (cases_lt k last) [ inl less ↦ absurd (true≢false (sym (tells.1 less) ∙ none)) | inr past ↦ past ]
