-- What a table reaches from what it has reached, of which the path edges are listed by `members`.
use Rattle.std.specs.Prelude.{◌≡◌, ◌≤◌, Option, Result, OnOk, List, length}
use Rattle.language.specs.Lists.{Member}
use Rattle.path_sets.specs.Triples.{Triple}
use Rattle.path_sets.specs.EdgeLimits.{most_of}
use Rattle.summaries.specs.declared.edge.PathEdge.{PathEdge}
use Rattle.summaries.specs.declared.frontier.Frontier.{Frontier}
use Rattle.summaries.specs.declared.table_fault.TableFault.{TableFault}
use Rattle.summaries.specs.Grows.{Adds, AddsOnly, IsFoundBy, beside}

-- The frontier is that of the same table, with the same limit.
pub record StaysFrontier {Alloc Edges : Type 0} (old new : Frontier Alloc Edges) : Type 0 where
  pub edges : new.edges.ghost_name ≡ old.edges.ghost_name
  pub pending : new.pending.ghost_name ≡ old.pending.ghost_name
  pub limit : new.limit ≡ old.limit

module _ {Alloc Edges : Type 0} (members : Edges → List Triple) where
  -- there are no more edges than the limit
  abbrev pub IsWithin : Frontier Alloc Edges → Type 0
  IsWithin f = length (members f.edges.now) ≤ most_of f.limit

  -- The triples for which W holds were to be added to the path edges, with this result.
  pub record Extends (W : Triple → Type 0) {Returned : Type 0} (answer : Result Returned TableFault)
      (old new : Frontier Alloc Edges) : Type 0 where
    pub adds : Adds W answer (most_of old.limit) (members old.edges.now) (members new.edges.now) old.pending.now.items new.pending.now.items
    pub stays : StaysFrontier old new

  -- The triples for which W holds, of which there is at most one, were to be added to the path edges, with this result: the
  -- one that is new is found, and not pending.
  pub record Finds (W : Triple → Type 0) (answer : Result (Option PathEdge) TableFault) (old new : Frontier Alloc Edges) : Type 0 where
    pub adds : Adds W answer (most_of old.limit) (members old.edges.now) (members new.edges.now) old.pending.now.items
        (beside answer old.pending.now.items)
    pub found : OnOk answer (AddsOnly (IsFoundBy answer) (members old.edges.now) (members new.edges.now))
    pub there : (reached : Triple) → IsFoundBy answer reached → Member reached (members new.edges.now)
    pub pending : new.pending.now ≡ old.pending.now
    pub stays : StaysFrontier old new
