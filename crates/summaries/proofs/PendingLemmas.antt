-- When an edge is worked on.
use Rattle.std.proofs.Common.{◌≡◌, ◌≤◌, ℕ, Some, List, length, refl, sym, ◌∙◌, subst, slice_get, arith}
use Rattle.std.proofs.lemmas.Option.{none-some, same_Some, slice_get_within}
use Rattle.language.specs.Lists.{Member}
use Rattle.path_sets.specs.Triples.{Triple, triple}
use Rattle.flow_graph.specs.Calls.{call_entry}
use Rattle.flow_graph.specs.Flows.{last_of, next_of, entered_by}
use Rattle.flow_graph.specs.Returns.{left_by}
use Rattle.flow_graph.specs.declared.call.Call as rust
use Rattle.flow_graph.specs.declared.flow.Flow.{Flow}
use Rattle.flow_graph.specs.declared.flow.Flow.TheVariants.{Assign, Test, Assume, Call, Return}
use Rattle.flow_graph.specs.declared.graph.Graph.{Graph}
use Rattle.summaries.specs.declared.edge.PathEdge.{PathEdge}
use Rattle.summaries.specs.declared.found.Found.{Found}
use Rattle.summaries.specs.Found.{HasSite, HasExit, IsWorked}
use Rattle.summaries.specs.Grows.{IsNext}

module _ {A G : Type 0} (graph : Graph G) (q : ℕ) (f : Found A) (es : List Triple) (e : PathEdge)
    (leaves : e.point ≡ 0 → HasExit f e.entry (left_by graph e.values)) where
  -- if there is no such point
  pub beyond_worked : length graph.flows.items ≤ e.point → IsWorked graph q f es e.entry e.point e.values
  beyond_worked past = record {
    flows = λ flow i n v here most next. absurd (none flow here);
    calls = λ flow s x n here enters. absurd (none flow here);
    leaves = leaves;
  }
    where
      none : (flow : Flow G) → slice_get graph.flows.items e.point ≡ Some flow → ⊥
      none flow here = let within = slice_get_within graph.flows.items e.point flow here in omega (arith, within, past)

  -- if the site of its call is there
  pub called_worked : (call : rust.Call G) → slice_get graph.flows.items e.point ≡ Some (Call call) →
      HasSite f call.callee (call_entry call.globals call.arguments.items e.values) e →
      IsWorked graph q f es e.entry e.point e.values
  called_worked call here asked = record {
    flows = λ flow i n v at most next. absurd (none-some (n, v) (subst (λ w. next_of w e.values i ≡ Some (n, v)) (is flow at) next));
    calls = λ flow s x n at enters. subst (λ (t : ℕ × ℕ × ℕ). HasSite f t.0 t.1 e)
        (same_Some _ _ (subst (λ w. entered_by w e.values ≡ Some (s, x, n)) (is flow at) enters)) asked;
    leaves = leaves;
  }
    where
      is : (flow : Flow G) → slice_get graph.flows.items e.point ≡ Some flow → flow ≡ Call call
      is flow at = same_Some flow (Call call) (sym at ∙ here)

  -- if what its choices lead to is there, and it does not call
  pub led_worked : (flow : Flow G) → slice_get graph.flows.items e.point ≡ Some flow → ((call : rust.Call G) → flow ≡ Call call → ⊥)
      → ((t : Triple) → IsNext flow e t → Member t es) →
      IsWorked graph q f es e.entry e.point e.values
  led_worked flow here no_call all = record {
    flows = λ w i n v at most next.
        all (triple e.entry n v)
        (i, subst (λ u. i ≤ last_of u) (is w at) most, (n, v, subst (λ u. next_of u e.values i ≡ Some (n, v)) (is w at) next, refl));
    calls = λ w s x n at enters. absurd (no_entry flow no_call (subst (λ u. entered_by u e.values ≡ Some (s, x, n)) (is w at) enters));
    leaves = leaves;
  }
    where
      is : (w : Flow G) → slice_get graph.flows.items e.point ≡ Some w → w ≡ flow
      is w at = same_Some w flow (sym at ∙ here)

      no_entry : (u : Flow G) → ((call : rust.Call G) → u ≡ Call call → ⊥) → {x : ℕ × ℕ × ℕ} → entered_by u e.values ≡ Some x → ⊥
      no_entry (Assign a to) apart h = none-some _ h
      no_entry (Test s j k) apart h = none-some _ h
      no_entry (Assume s to) apart h = none-some _ h
      no_entry (Call call) apart h = apart call refl
      no_entry Return apart h = none-some _ h
