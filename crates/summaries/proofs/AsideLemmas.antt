-- When an edge is worked on, and the one that it leads to is found and left aside.
use Rattle.std.proofs.Common.{◌≡◌, ◌⊎◌, ℕ, List, Option, None, Result, Ok, inl, inr, sym, subst}
use Rattle.language.specs.Lists.{Member}
use Rattle.path_sets.specs.Triples.{Triple, triple}
use Rattle.flow_graph.specs.Returns.{resumed_at}
use Rattle.flow_graph.specs.Numbers.{GraphReaches}
use Rattle.flow_graph.specs.declared.graph.Graph.{Graph}
use Rattle.summaries.specs.declared.edge.PathEdge.{PathEdge}
use Rattle.summaries.specs.declared.found.Found.{Found}
use Rattle.summaries.specs.Found.{TookMessage, IsGrounded, IsSaturated, IsWorked}
use Rattle.summaries.specs.declared.table.Table.{Table}
use Rattle.summaries.specs.declared.table_fault.TableFault.{TableFault}
use Rattle.summaries.specs.Grows.{triple_of, IsFoundBy}
use Rattle.summaries.specs.Tables.{Worked}
use Rattle.summaries.proofs.FrontierLemmas.{ok_err}

-- the edges es grow to ds, and what is found beside them stays
module _ {A G : Type 0} (graph : Graph G) (q : ℕ) (f : Found A) (es ds : List Triple)
    (kept : (t : Triple) → Member t es → Member t ds) where
  -- all is reached and sent, if the new edges are reached
  pub found_grounded : ((t : Triple) → Member t ds → GraphReaches graph (TookMessage f) t.entry t.point t.values) →
      IsGrounded graph q f es → IsGrounded graph q f ds
  found_grounded reached old = record {
    edge = λ a n v m. reached (triple a n v) m;
    site = old.site;
    exit = old.exit;
    given = old.given;
    pending = λ a n v m. kept (triple a n v) (old.pending a n v m);
    callers_once = old.callers_once;
    indexed = old.indexed;
  }

  -- what was worked on is
  kept_worked : (a n v : ℕ) → IsWorked graph q f es a n v → IsWorked graph q f ds a n v
  kept_worked a n v old = record {
    flows = λ flow i n' v' here most next. kept (triple a n' v') (old.flows flow i n' v' here most next);
    calls = old.calls;
    leaves = old.leaves;
  }

  -- nothing is left out, if one edge was left aside and is worked on, and those left aside now are all that is new
  pub found_saturated : (e : PathEdge) → IsWorked graph q f ds e.entry e.point e.values → (New : Triple → Type 0) →
      ((t : Triple) → Member t ds → New t ⊎ Member t es) →
      IsSaturated graph q f es (λ t. t ≡ triple_of e) → IsSaturated graph q f ds New
  found_saturated e worked New new old = record {
    begun = λ from a h. kept (triple a graph.start a) (old.begun from a h);
    worked = λ a n v m. elim (new (triple a n v) m) [
      | inl is ↦ inl is
      | inr was ↦ elim (old.worked a n v was) [
        | inl is ↦ inr (inr (subst (λ t. IsWorked graph q f ds t.entry t.point t.values) (sym is) worked))
        | inr rest ↦ elim rest [ inl waits ↦ inr (inl waits) | inr done ↦ inr (inr (kept_worked a n v done)) ]
      ]
    ];
    ended = λ s x b a n v back at enters taken. kept (triple a back (resumed_at graph n v b)) (old.ended s x b a n v back at enters taken);
    asks = old.asks;
    tells = old.tells;
    led = λ x m.
        let (flow, from, n, here, first, all) = old.led x m in
        (flow, from, n, here, first, λ i n' v' most next. kept (triple x.entry n' v') (all i n' v' most next));
  }

module _ {A G : Type 0} (graph : Graph G) (q : ℕ) (f : Found A) (es : List Triple) where
  -- what is left aside may be called otherwise
  pub aside_as : (Old New : Triple → Type 0) → ((t : Triple) → Old t → New t) → IsSaturated graph q f es Old → IsSaturated graph q f es New
  aside_as Old New to old = record {
    begun = old.begun;
    worked = λ a n v m. elim (old.worked a n v m) [ inl is ↦ inl (to (triple a n v) is) | inr rest ↦ inr rest ];
    ended = old.ended;
    asks = old.asks;
    tells = old.tells;
    led = old.led;
  }

  -- if nothing is left aside, nothing but what was found is
  pub none_aside : (Found : Triple → Type 0) → IsSaturated graph q f es (λ t. ⊥) → IsSaturated graph q f es Found
  none_aside Found = aside_as (λ t. ⊥) Found (λ t none. absurd none)

-- nothing is found
abbrev pub nothing : Result (Option PathEdge) TableFault
nothing = Ok None

-- work after which nothing is left aside, if nothing is found
pub none_found : {G A S : Type 0} (members : S → List Triple) {T : Type 0} (x : T) (old new : Table G A S) →
    Worked members (λ t. ⊥) (Ok x) old new → Worked members (IsFoundBy nothing) nothing old new
none_found members x old new worked = record {
  holds = (worked.holds.0, none_aside new.graph.now new.procedure new.found (members new.edges) (IsFoundBy nothing) worked.holds.1);
  edges = worked.edges;
  within = worked.within;
  many = λ is. absurd (ok_err is);
  answers = worked.answers;
  stays = worked.stays;
  fault = worked.fault;
}
