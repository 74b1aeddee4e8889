-- Edges that are remembered as led.
use Rattle.std.proofs.Common.{◌≡◌, ◌≤◌, ◌⊎◌, ℕ, Bool, true, false, Some, List, [], ◌∷◌, ◌++◌}
use Rattle.std.proofs.Common.{inl, refl, sym, ap, ◌∙◌, subst}
use Rattle.std.proofs.Common.{slice_get, if◌then◌else◌, nat_eq, ◌&&◌}
use Rattle.std.specs.List.{list_any}
use Rattle.std.proofs.lemmas.Option.{same_Some}
use Rattle.indexmap.specs.IndexSet.{insert_key}
use Rattle.language.specs.Lists.{Member}
use Rattle.path_sets.specs.Triples.{Triple, triple}
use Rattle.flow_graph.specs.Flows.{last_of, next_of}
use Rattle.flow_graph.specs.declared.flow.Flow.{Flow}
use Rattle.flow_graph.specs.declared.graph.Graph.{Graph}
use Rattle.flow_graph.proofs.ChoiceLemmas.{next_alike}
use Rattle.summaries.specs.declared.edge.PathEdge.{PathEdge}
use Rattle.summaries.specs.declared.found.Found.{Found}
use Rattle.summaries.specs.Found.{path_edge, IsExpanded}
use Rattle.summaries.specs.Grows.{IsNext, IsExpansionKey}
use Rattle.path_sets.proofs.PlaceLemmas.{last_or}
use Rattle.path_sets.proofs.MaskKeyLemmas.{same_by_three}
use Rattle.summaries.proofs.StepLemmas.{Step, taken_as, indexed_as}

-- whether two are the same
abbrev pub led_eq : PathEdge → PathEdge → Bool
led_eq x y = nat_eq x.entry y.entry && (nat_eq x.point y.point && nat_eq x.values y.values)

-- they then are
pub same_led : (x y : PathEdge) → led_eq x y ≡ true → x ≡ y
same_led x y = same_by_three path_edge x.entry x.point x.values y.entry y.point y.values

-- if an edge was led that choice 0 leads to the same, each choice leads to an edge
pub all_led : {G : Type 0} (graph : Graph G) (es : List Triple) (e : PathEdge) (x : PathEdge) (flow : Flow G)
    → slice_get graph.flows.items e.point ≡ Some flow → IsExpansionKey flow e x → IsExpanded graph es x
    → (t : Triple) → IsNext flow e t → Member t es
all_led graph es e x flow here (more, entry, point, (m, first)) (w, from, n, there, before, all) t (i, most, (to, v, next, is)) =
    let same : w ≡ flow = same_Some w flow (sym there ∙ ap (slice_get graph.flows.items) point ∙ here) in
    let alike : next_of flow from i ≡ next_of flow e.values i =
    next_alike flow from e.values i n m x.values more (subst (λ u. next_of u from 0 ≡ Some (n, x.values)) same before) first in
    let led : Member (triple x.entry to v) es =
    all i to v (subst (λ u. i ≤ last_of u) (sym same) most)
    (subst (λ u. next_of u from i ≡ Some (to, v)) (sym same) (alike ∙ next)) in
    subst (λ u. Member u es) (sym is) (subst (λ a. Member (triple a to v) es) entry led)

-- if each choice leads to an edge, it may be remembered so
pub led_now : {G : Type 0} (graph : Graph G) (es : List Triple) (e : PathEdge) (x : PathEdge) (flow : Flow G)
    → slice_get graph.flows.items e.point ≡ Some flow → IsExpansionKey flow e x → ((t : Triple) → IsNext flow e t → Member t es)
    → IsExpanded graph es x
led_now graph es e x flow here (more, entry, point, (n, first)) all = (
  flow,
  e.values,
  n,
  ap (slice_get graph.flows.items) point ∙ here,
  first,
  λ i n' v' most next.
      subst (λ a. Member (triple a n' v') es) (sym entry) (all (triple e.entry n' v') (i, most, (n', v', next, refl))),
)

-- g remembers other edges
module _ {A G : Type 0} (graph : Graph G) (q : ℕ) (f g : Found A) (es : List Triple) where
  -- what is found, with these
  abbrev pub remembered_to : Found A
  remembered_to = record f { expanded = g.expanded }

  -- nothing else changes
  pub remembered_step : ((x : PathEdge) → Member x g.expanded.keys → Member x f.expanded.keys ⊎ IsExpanded graph es x)
      → Step graph q f remembered_to es es
  remembered_step led = record {
    taken = taken_as f remembered_to (λ a. refl) (λ c. refl);
    kept = λ t m. m;
    edge = λ t m. inl m;
    new = λ t m. inl m;
    stays = λ e m. m;
    pending = λ e m. inl m;
    sites = λ s x a n v m. m;
    called = λ s x a n v m. inl m;
    exits = λ a b m. m;
    exit = λ a b m. inl m;
    gives = λ s k m. m;
    given = λ s k m. inl m;
    begun = λ from a h. inl h;
    ended = λ s x b a n v back at enters taken. inl (at, taken);
    asks = λ s x a n v m. inl m;
    tells = λ a b c m h. inl (m, h);
    callers_once = λ old. old;
    led = led;
    indexed = λ old. indexed_as f remembered_to refl (λ at. refl) old.placed old;
  }

-- a key among those of a set to which one is added is one from before, or the one added
pub inserted_or : {K : Type 0} (eq : K → K → Bool) (ks ls : List K) (k x : K) → ls ≡ insert_key eq ks k → Member x ls
    → Member x ks ⊎ (x ≡ k)
inserted_or {K} eq ks ls k x is m = by (list_any (eq k) ks) is
  where
    by : (b : Bool) → ls ≡ (if b then ks else ks ++ k ∷ []) → Member x ks ⊎ (x ≡ k)
    by true same = inl (subst (Member x) same m)
    by false more = last_or ks k x (subst (Member x) more m)
