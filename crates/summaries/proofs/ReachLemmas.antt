-- What is reached from a frontier, step by step.
use Rattle.std.proofs.Common.{◌≤◌, List, Result, Ok, refl, length, sym, subst, ◌∙◌}
use Rattle.path_sets.specs.Triples.{Triple}
use Rattle.path_sets.specs.EdgeLimits.{most_of}
use Rattle.summaries.specs.declared.frontier.Frontier.{Frontier}
use Rattle.summaries.specs.declared.table_fault.TableFault.{TableFault}
use Rattle.summaries.specs.Frontiers.{Extends, IsWithin, StaysFrontier}
use Rattle.summaries.specs.Grows.{Adds}
use Rattle.summaries.proofs.FrontierLemmas.{adds_none}

-- what stays the same in two steps does in both
pub stays_on : {A S : Type 0} {old mid new : Frontier A S} → StaysFrontier old mid → StaysFrontier mid new → StaysFrontier old new
stays_on first second = record {
  edges = second.edges ∙ first.edges;
  pending = second.pending ∙ first.pending;
  limit = second.limit ∙ first.limit;
}

module _ {A S : Type 0} (members : S → List Triple) {W : Triple → Type 0} {T : Type 0} {answer : Result T TableFault} where
  -- there are no more edges than the limit after either
  pub still_within : {old new : Frontier A S} → Extends members W answer old new → IsWithin members new
  still_within {old} {new} reaches = subst (λ l. length (members new.edges.now) ≤ most_of l) (sym reaches.stays.limit) reaches.adds.within

  -- what is added up to some step and in it is reached
  pub reaches_on : {old mid new : Frontier A S} → StaysFrontier old mid → StaysFrontier mid new →
      Adds W answer (most_of mid.limit) (members old.edges.now) (members new.edges.now) old.pending.now.items new.pending.now.items →
      Extends members W answer old new
  reaches_on {old} {mid} {new} first second adds = record {
    adds = subst (λ l. Adds W answer (most_of l) (members old.edges.now) (members new.edges.now) old.pending.now.items
        new.pending.now.items) first.limit adds;
    stays = stays_on first second;
  }

-- nothing is reached where there is nowhere to go
pub nowhere : {A S : Type 0} (members : S → List Triple) (W : Triple → Type 0) (f : Frontier A S) → ((t : Triple) → W t → ⊥)
    → IsWithin members f → Extends members W (Ok (tt {0})) f f
nowhere members W f none within =
    record { adds = adds_none W _ _ _ none within; stays = record { edges = refl; pending = refl; limit = refl } }
