-- A table that is sound and complete, and has nothing pending, has what is reached and what is sent.
use Rattle.std.proofs.Common.{◌≡◌, ℕ, List, [], inl, inr, subst, sym, refl}
use Rattle.language.specs.Lists.{Member}
use Rattle.path_sets.specs.Triples.{Triple, triple}
use Rattle.flow_graph.specs.Returns.{left_by}
use Rattle.flow_graph.specs.Numbers.{NumberedMessage, numbered_entry, numbered_summary, GraphReaches}
use Rattle.flow_graph.specs.Numbers.{starts, flows, returns, Sends, asks, tells, Leaves}
use Rattle.flow_graph.specs.declared.graph.Graph.{Graph}
use Rattle.flow_graph.specs.declared.exit.Exit.{Exit}
use Rattle.summaries.specs.declared.found.Found.{Found}
use Rattle.summaries.specs.Found.{path_edge, TookMessage, HasExit, HasGiven, IsOwed, IsGrounded, IsWorked, IsSaturated, IsExact}

-- a message that is owed is sent
pub owed_sent : {A G : Type 0} (graph : Graph G) (q : ℕ) (f : Found A) (edges : List Triple) →
    IsGrounded graph q f edges → (s : ℕ) (k : NumberedMessage) → IsOwed f q s k → Sends graph q (TookMessage f) s k
owed_sent graph q f edges sound s (numbered_entry from e) (is, (x, at)) =
    let (reached, (back, (flow, here, enters))) = sound.site s e x.entry x.point x.values at in
    subst (λ c. Sends graph q (TookMessage f) s (numbered_entry c e)) (sym is)
    (asks x.entry x.point x.values s e back flow reached here enters)
owed_sent graph q f edges sound s (numbered_summary p a b) (is, has, taken) =
    let (v, reached, leaves) = sound.exit a b has in
    subst (λ n. Sends graph q (TookMessage f) s (numbered_summary n a b)) (sym is)
    (subst (λ y. Sends graph q (TookMessage f) s (numbered_summary q a y)) (sym leaves) (tells a v s taken reached))

module _ {A G : Type 0} (graph : Graph G) (q : ℕ) (f : Found A) (edges : List Triple)
    (complete : IsSaturated graph q f edges (λ t. ⊥)) (none_pending : f.pending.items ≡ []) where
  -- each edge is worked on
  is_worked : (a n v : ℕ) → Member (triple a n v) edges → IsWorked graph q f edges a n v
  is_worked a n v e =
      elim (complete.worked a n v e) [
        | inl aside ↦ absurd aside
        | inr rest ↦ elim rest [
          | inl pending ↦ absurd (subst (Member (path_edge a n v)) none_pending pending)
          | inr worked ↦ worked
        ]
      ]

  -- what is reached is an edge
  pub is_edge : (a n v : ℕ) → GraphReaches graph (TookMessage f) a n v → Member (triple a n v) edges
  unfolding is_worked
  is_edge a _ _ (starts from _ taken) = complete.begun from a taken
  is_edge a _ _ (flows _ n v n' v' i flow r here within leads) = (is_worked a n v (is_edge a n v r)).flows flow i n' v' here within leads
  is_edge a _ _ (returns _ n v s e n' b flow r here calls taken) =
      complete.ended s e b a n v n' ((is_worked a n v (is_edge a n v r)).calls flow s e n' here calls) (flow, here, calls) taken

  -- what is sent is given
  pub is_given : (s : ℕ) (k : NumberedMessage) → Sends graph q (TookMessage f) s k → HasGiven f q s k
  unfolding is_worked
  is_given _ _ (asks a n v s e n' flow r here calls) =
      complete.asks s e a n v ((is_worked a n v (is_edge a n v r)).calls flow s e n' here calls)
  is_given _ _ (tells a v c taken r) =
      complete.tells a (left_by graph v) c ((is_worked a 0 v (is_edge a 0 v r)).leaves refl) taken

  -- what is left is an exit
  pub is_left : (a : ℕ) (b : Exit) → Leaves graph (TookMessage f) a b → HasExit f a b
  unfolding is_worked
  is_left a b (v, reached, is) = subst (HasExit f a) (sym is) ((is_worked a 0 v (is_edge a 0 v reached)).leaves refl)

  -- so, if all of it is reached and sent, the table is quiet
  pub is_exact : IsGrounded graph q f edges → IsExact graph q f edges
  is_exact sound = (
    λ a n v. (is_edge a n v, sound.edge a n v),
    λ s k. (is_given s k, λ m. owed_sent graph q f edges sound s k (sound.given s k m)),
  )
