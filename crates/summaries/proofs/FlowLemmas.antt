-- The step of a table at an edge whose choices lead on.
use Rattle.std.proofs.Common.{◌≡◌, ◌⊎◌, ℕ, Some, List, inl, refl, sym, subst, slice_get}
use Rattle.std.specs.Prelude.{Vec}
use Rattle.language.specs.Lists.{Member}
use Rattle.path_sets.specs.Triples.{Triple}
use Rattle.flow_graph.specs.Numbers.{NumberedMessage, GraphReaches, flows}
use Rattle.flow_graph.specs.declared.flow.Flow.{Flow}
use Rattle.flow_graph.specs.declared.graph.Graph.{Graph}
use Rattle.flow_graph.proofs.ReachLemmas.{reaches_more}
use Rattle.summaries.specs.declared.edge.PathEdge.{PathEdge}
use Rattle.summaries.specs.declared.found.Found.{Found}
use Rattle.summaries.specs.Found.{TookMessage, IsGrounded}
use Rattle.summaries.specs.Grows.{Grows, IsNext, triple_of}
use Rattle.summaries.proofs.StepLemmas.{Step, taken_as, grown_to, grown_reached, grown_step}

module _ {A G : Type 0} (graph : Graph G) (q : ℕ) (f : Found A) (pending : Vec PathEdge A) where
  -- what is found, with other edges pending
  abbrev pub led_to : Found A
  led_to = grown_to graph q f f.entries f.outbox pending

  -- the messages taken are the same
  pub taken_led : (k : NumberedMessage) → TookMessage f k → TookMessage led_to k
  taken_led = taken_as f led_to (λ a. refl) (λ c. refl)

  module _ (es ds : List Triple) (e : PathEdge) (flow : Flow G) (sound : IsGrounded graph q f es) (there : Member (triple_of e) es)
      (here : slice_get graph.flows.items e.point ≡ Some flow) where
    -- where a choice leads is reached
    pub next_reached : (t : Triple) → IsNext flow e t → GraphReaches graph (TookMessage led_to) t.entry t.point t.values
    next_reached t (i, most, (n, v, next, is)) =
        subst (λ u. GraphReaches graph (TookMessage led_to) u.entry u.point u.values) (sym is)
        (flows e.entry e.point e.values n v i flow
        (reaches_more graph (TookMessage f) (TookMessage led_to) taken_led e.entry e.point e.values
        (sound.edge e.entry e.point e.values there)) here most next)

    -- so all edges are, if nothing else is added
    pub lead_only : ((t : Triple) → Member t ds → IsNext flow e t ⊎ Member t es) → (t : Triple) → Member t ds →
        GraphReaches graph (TookMessage led_to) t.entry t.point t.values
    lead_only = grown_reached graph q f f.entries f.outbox pending es ds (IsNext flow e) taken_led next_reached sound

    pub lead_step : (W : Triple → Type 0) → ((t : Triple) → W t → IsNext flow e t) → Grows W es ds f.pending.items pending.items →
        Step graph q f led_to es ds
    lead_step W some grown =
        grown_step graph q f f.entries f.outbox pending es ds W taken_led (λ t w. next_reached t (some t w)) grown
        (λ s k m. m) (λ s k m. inl m) (λ from a h. inl h)
        (λ a b c m h. inl h) (λ old. old) (λ x old m. old.placed x m)
