-- Path edges that are added, and become pending.
use Rattle.std.specs.Prelude.{◌≡◌, ◌≤◌, ◌<◌, ℕ, Option, Some, None, Result, Ok, Err, OnOk, List, [], ◌∷◌}
use Rattle.std.specs.Prelude.{◌⊎◌, ◌++◌, length, ◌+◌, slice_get}
use Rattle.language.specs.Lists.{Member}
use Rattle.path_sets.specs.Triples.{Triple, triple}
use Rattle.flow_graph.specs.Drawn.{flows_of}
use Rattle.flow_graph.specs.Flows.{last_of, next_of, entered_by}
use Rattle.flow_graph.specs.Returns.{resumed_at}
use Rattle.flow_graph.specs.declared.call.Call as rust
use Rattle.flow_graph.specs.declared.flow.Flow.{Flow}
use Rattle.flow_graph.specs.declared.flow.Flow.TheVariants.{Call}
use Rattle.flow_graph.specs.declared.graph.Graph.{Graph}
use Rattle.flow_graph.specs.declared.exit.Exit.{Exit}
use Rattle.summaries.specs.declared.due.Caller.{Caller}
use Rattle.summaries.specs.declared.due.Caller.TheVariants.{Proc}
use Rattle.summaries.specs.declared.edge.PathEdge.{PathEdge}
use Rattle.summaries.specs.declared.outbox.Outbox.{Outbox}
use Rattle.summaries.specs.declared.outbox.Outgoing.{Outgoing}
use Rattle.summaries.specs.declared.outbox.Outgoing.TheVariants.{SummaryFor}
use Rattle.summaries.specs.declared.table_fault.TableFault.{TableFault}
use Rattle.summaries.specs.declared.table_fault.TableFault.TheVariants.{EdgeLimit}
use Rattle.summaries.specs.Mails.{AddressedMail, mail, summary_due}
use Rattle.summaries.specs.declared.exits.Exits.{Exits}
use Rattle.summaries.specs.Exits.{pair, pair_at}

-- the path edge as a triple
abbrev pub triple_of : PathEdge → Triple
triple_of edge = triple edge.entry edge.point edge.values

-- the triple as an edge to be worked on
abbrev pub edge_of : Triple → PathEdge
edge_of edge = record { entry = edge.entry; point = edge.point; values = edge.values }

-- The triples for which W holds are edges after, beside those before, and no others; each edge that is new is
-- pending, beside those before; what becomes pending is an edge; as many become pending as there are new edges.
pub record Grows (W : Triple → Type 0) (old new : List Triple) (before after : List PathEdge) : Type 0 where
  pub all : (reached : Triple) → W reached → Member reached new
  pub kept : (reached : Triple) → Member reached old → Member reached new
  pub only : (reached : Triple) → Member reached new → W reached ⊎ Member reached old
  pub stays : (item : PathEdge) → Member item before → Member item after
  pub pending : (reached : Triple) → Member reached new → Member reached old ⊎ Member (edge_of reached) after
  pub edges : (item : PathEdge) → Member item after → Member item before ⊎ Member (triple_of item) new
  pub more : length after + length old ≡ length before + length new
  pub longer : length old ≤ length new

-- W holds for each item that is new
abbrev pub AddsOnly : {Item : Type 0} → (Item → Type 0) → List Item → List Item → Type 0
AddsOnly {Item} W old new = (item : Item) → Member item new → W item ⊎ Member item old

-- Triples were to be added, with this result. On Ok those for which W holds are added, and what is new is pending;
-- whatever the answer, no others are added, and no more than the limit; if the answer is that the limit is passed,
-- there are as many, and one for which W holds is not among them.
pub record Adds (W : Triple → Type 0) {Returned : Type 0} (answer : Result Returned TableFault) (most : ℕ) (old new : List Triple)
    (before after : List PathEdge) : Type 0 where
  pub ok : OnOk answer (Grows W old new before after)
  pub only : AddsOnly W old new
  pub within : length new ≤ most
  pub limit : answer ≡ Err EdgeLimit → (reached : Triple) × W reached × (Member reached new → ⊥) × (most ≤ length new)

-- the edges that are pending and, behind them, the one that was found, if one was
abbrev pub beside : {Fault : Type 0} → Result (Option PathEdge) Fault → List PathEdge → List PathEdge
beside (Ok (Some found)) pending = pending ++ found ∷ []
beside (Ok None) pending = pending
beside (Err fault) pending = pending

-- A triple is the edge that was found.
abbrev pub IsFoundBy : {Fault : Type 0} → Result (Option PathEdge) Fault → Triple → Type 0
IsFoundBy answer reached = (found : PathEdge) × (answer ≡ Ok (Some found)) × (reached ≡ triple_of found)

-- A triple is where the run continues from an edge, if it does.
abbrev pub IsAt : PathEdge → Option (ℕ × ℕ) → Triple → Type 0
IsAt edge next reached = (point : ℕ) × (values : ℕ) × (next ≡ Some (point, values)) × (reached ≡ triple edge.entry point values)

-- A triple is where a choice after the first, and before the k-th, leads from an edge.
abbrev pub IsOtherBefore : {GraphAlloc : Type 0} → ℕ → Flow GraphAlloc → PathEdge → Triple → Type 0
IsOtherBefore k flow edge reached =
    (choice : ℕ) × (1 ≤ choice) × (choice < k) × IsAt edge (next_of flow edge.values choice) reached

-- A triple is where a choice after the first leads from an edge.
abbrev pub IsOther : {GraphAlloc : Type 0} → Flow GraphAlloc → PathEdge → Triple → Type 0
IsOther flow edge reached =
    (choice : ℕ) × (1 ≤ choice) × (choice ≤ last_of flow) × IsAt edge (next_of flow edge.values choice) reached

-- A triple is where a choice leads from an edge.
abbrev pub IsNext : {GraphAlloc : Type 0} → Flow GraphAlloc → PathEdge → Triple → Type 0
IsNext flow edge reached = (choice : ℕ) × (choice ≤ last_of flow) × IsAt edge (next_of flow edge.values choice) reached

-- W holds of it for some item of the list
abbrev pub OfSome : {Item Returned : Type 0} → (Item → Returned → Type 0) → List Item → Returned → Type 0
OfSome {Item} W xs t = (item : Item) × Member item xs × W item t

-- A call at the point enters this procedure so from these values, and the run continues at `back` when it
-- returns.
abbrev pub EntersAt : {GraphAlloc : Type 0} → Graph GraphAlloc → ℕ → ℕ → ℕ → ℕ → ℕ → Type 0
EntersAt {GraphAlloc} graph point values callee entered back =
    (flow : Flow GraphAlloc) × (slice_get (flows_of graph) point ≡ Some flow) × (entered_by flow values ≡ Some (callee, entered, back))

-- A triple is the edge after the call of a site, if it has left this.
abbrev pub IsBehind : {GraphAlloc : Type 0} → Graph GraphAlloc → PathEdge → Exit → Triple → Type 0
IsBehind graph site exit edge =
    (other : ℕ) × (entered : ℕ) × (back : ℕ) × EntersAt graph site.point site.values other entered back
    × (edge ≡ triple site.entry back (resumed_at graph site.point site.values exit))

-- The items for which W holds are there after, beside those before, and no others; they come after those before.
pub record AddsTo {Item : Type 0} (W : Item → Type 0) (old new : List Item) : Type 0 where
  pub all : (item : Item) → W item → Member item new
  pub only : (item : Item) → Member item new → W item ⊎ Member item old
  pub behind : (more : List Item) × (new ≡ old ++ more)

-- What is given is the summary of the pair at this place for this caller, which is not the starter.
abbrev pub IsTold : ℕ → Caller → Outgoing → Type 0
IsTold at from sent = (caller : ℕ) × (from ≡ Proc caller) × (sent ≡ SummaryFor caller at)

-- What is given is the summary of a pair of this entry for this caller.
abbrev pub IsToldOf : {Alloc : Type 0} → Exits Alloc → ℕ → Caller → Outgoing → Type 0
IsToldOf exits entry from sent =
    (at : ℕ) × ((exit : Exit) × (pair_at exits at ≡ Some (pair entry exit))) × IsTold at from sent

-- A message is the summary of the procedure for this caller, which is not the starter.
abbrev pub IsSummaryTold : ℕ → ℕ → Exit → Caller → AddressedMail → Type 0
IsSummaryTold procedure entry exit from message = (caller : ℕ) × (from ≡ Proc caller)
    × (message ≡ mail caller (summary_due procedure entry exit))

-- Messages were to be given, with this result. On Ok those for which W holds are given; whatever the answer, no
-- others are, and no more are answered.
pub record SendsAll {Alloc Returned E : Type 0} (W : Outgoing → Type 0) (answer : Result Returned E) (old new : Outbox Alloc) : Type 0 where
  pub ok : OnOk answer (AddsTo W old.sent.items new.sent.items)
  pub only : AddsOnly W old.sent.items new.sent.items
  pub answered : new.answered ≡ old.answered

-- the flow does not call
abbrev pub IsNoCall : {GraphAlloc : Type 0} → Flow GraphAlloc → Type 0
IsNoCall {GraphAlloc} flow = (call : rust.Call GraphAlloc) → flow ≡ Call call → ⊥

-- A flow has more than two choices, of which the first leads from the edge to what it is remembered by.
abbrev pub IsExpansionKey : {GraphAlloc : Type 0} → Flow GraphAlloc → PathEdge → PathEdge → Type 0
IsExpansionKey flow edge led =
    (2 ≤ last_of flow) × (led.entry ≡ edge.entry) × (led.point ≡ edge.point)
    × ((n : ℕ) × (next_of flow edge.values 0 ≡ Some (n, led.values)))
