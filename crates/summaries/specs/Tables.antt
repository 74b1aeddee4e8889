-- What the table of one procedure promises, of which the path edges kept are listed by `members`.
use Rattle.std.specs.Prelude.{◌≡◌, ◌≤◌, ◌<◌, ◌⊎◌, ◌↔◌, ◌+◌, ◌-◌, ◌*◌, ◌++◌, ◌∷◌}
use Rattle.std.specs.Prelude.{ℕ, Option, Some, None, Result, Ok, Err, OnOk, List, [], length}
use Rattle.language.specs.Lists.{Member, NoneTwice}
use Rattle.path_sets.specs.Triples.{Triple, triple}
use Rattle.flow_graph.specs.Drawn.{called_procedure, entered_from}
use Rattle.flow_graph.specs.Returns.{left_by}
use Rattle.flow_graph.specs.declared.call.Call.{Call}
use Rattle.flow_graph.specs.declared.flow.Flow.{Flow}
use Rattle.flow_graph.specs.declared.graph.Graph.{Graph}
use Rattle.flow_graph.specs.declared.exit.Exit.{Exit}
use Rattle.flow_graph.specs.Numbers.{NumberedMessage, GraphReaches, Sends, Leaves}
use Rattle.summaries.specs.declared.due.Due.{Due}
use Rattle.summaries.specs.declared.edge.PathEdge.{PathEdge}
use Rattle.summaries.specs.declared.found.Found.{Found}
use Rattle.summaries.specs.declared.table.Table.{Table}
use Rattle.summaries.specs.declared.table_fault.TableFault.{TableFault}
use Rattle.summaries.specs.declared.table_fault.TableFault.TheVariants.{EdgeLimit}
use Rattle.summaries.specs.Grows.{Adds, AddsOnly, IsFoundBy, IsNext, beside}
use Rattle.summaries.specs.Mails.{AddressedMail, mail}
use Rattle.summaries.specs.Dues.{due_of}
use Rattle.summaries.specs.Calls.{summaries_of}
use Rattle.summaries.specs.Found.{answers_in, TookMessage, HasSite, HasExit, IsGrounded, IsSaturated}
use Rattle.path_sets.specs.EdgeLimits.{most_of}

module _ {GraphAlloc Alloc Edges : Type 0} where
  -- the flow graph of the table's procedure
  abbrev pub graph_of : Table GraphAlloc Alloc Edges → Graph GraphAlloc
  graph_of table = table.graph.now

  -- the number of its procedure
  abbrev pub procedure_of : Table GraphAlloc Alloc Edges → ℕ
  procedure_of table = table.procedure

  -- how many path edges it may keep
  abbrev pub limit_of : Table GraphAlloc Alloc Edges → ℕ
  limit_of table = most_of table.limit

  -- the path edges that it keeps
  abbrev pub kept_edges : (Edges → List Triple) → Table GraphAlloc Alloc Edges → List Triple
  kept_edges members table = members table.edges

  -- the messages that it has answered, in order
  abbrev pub answers_of : Table GraphAlloc Alloc Edges → List AddressedMail
  answers_of table = answers_in table.procedure table.found

  -- the fault that it has failed with
  abbrev pub failure : Table GraphAlloc Alloc Edges → Option TableFault
  failure table = table.fault

-- The messages taken are those taken before, and this one.
abbrev pub TookAlso : {Alloc : Type 0} → Due → Found Alloc → Found Alloc → Type 0
TookAlso message old new = (k : NumberedMessage) → TookMessage new k ↔ ((due_of k ≡ message) ⊎ TookMessage old k)

-- Each message taken is this one, or was taken before.
abbrev pub TookOnly : {Alloc : Type 0} → Due → Found Alloc → Found Alloc → Type 0
TookOnly message old new = (k : NumberedMessage) → TookMessage new k → (due_of k ≡ message) ⊎ TookMessage old k

-- The messages taken are those taken before.
abbrev pub TookSame : {Alloc : Type 0} → Found Alloc → Found Alloc → Type 0
TookSame old new = (new.entries ≡ old.entries) × (summaries_of new.calls ≡ summaries_of old.calls)

-- the fault that an answer is
abbrev pub fault_in : {Returned : Type 0} → Result Returned TableFault → Option TableFault
fault_in (Ok _) = None
fault_in (Err fault) = Some fault

-- there are more than n triples, none twice, for which P holds
abbrev pub HasMore : ℕ → (Triple → Type 0) → Type 0
HasMore n P = (ts : List Triple) × NoneTwice ts × (n < length ts) × ((reached : Triple) → Member reached ts → P reached)

-- the table, failed if the answer is a fault
abbrev pub failed_by : {GraphAlloc Alloc Edges Returned : Type 0} → Result Returned TableFault → Table GraphAlloc Alloc Edges
    → Table GraphAlloc Alloc Edges
failed_by (Ok _) table = table
failed_by (Err fault) table = record {
  graph = table.graph;
  procedure = table.procedure;
  limit = table.limit;
  edges = table.edges;
  found = table.found;
  fault = Some fault;
}

-- the triple is reached by the messages that the table has taken
abbrev pub IsReached : {GraphAlloc Alloc Edges : Type 0} → Table GraphAlloc Alloc Edges → Triple → Type 0
IsReached table edge = GraphReaches table.graph.now (TookMessage table.found) edge.entry edge.point edge.values

-- what an edge leaves that is at the exit stands as an exit
abbrev pub HasItsExit : {GraphAlloc Alloc Edges : Type 0} → Table GraphAlloc Alloc Edges → PathEdge → Type 0
HasItsExit table edge = edge.point ≡ 0 → HasExit table.found edge.entry (left_by (graph_of table) edge.values)

-- the call stands as a site at the edge
abbrev pub HasAsked : {GraphAlloc Alloc Edges : Type 0} → Table GraphAlloc Alloc Edges → PathEdge → Call GraphAlloc → Type 0
HasAsked table edge call =
    HasSite table.found (called_procedure call) (entered_from call edge.values) edge

-- The table is that of the same procedure, with the same limit.
pub record StaysAs {GraphAlloc Alloc Edges : Type 0} (old new : Table GraphAlloc Alloc Edges) : Type 0 where
  pub graph : new.graph.now ≡ old.graph.now
  pub procedure : new.procedure ≡ old.procedure
  pub limit : new.limit ≡ old.limit

-- The table has answered this message: it comes after those that were answered before, is sent by the messages taken,
-- and is not one of those answered before.
pub record IsAnswer {GraphAlloc Alloc Edges : Type 0} (old new : Table GraphAlloc Alloc Edges) (to : ℕ) (message : Due) : Type 0 where
  pub behind : answers_of new ≡ answers_of old ++ mail to message ∷ []
  pub due : (k : NumberedMessage) → due_of k ≡ message → Sends new.graph.now new.procedure (TookMessage new.found) to k
  pub once : Member (mail to message) (answers_of old) → ⊥

module _ {GraphAlloc Alloc Edges : Type 0} (members : Edges → List Triple) where
  -- All that the table holds is reached and sent, and nothing that is reached or sent is missing, except what
  -- pending edges and the edges left aside still lead to.
  abbrev pub Holds : (Triple → Type 0) → Table GraphAlloc Alloc Edges → Type 0
  Holds Aside table = IsGrounded table.graph.now table.procedure table.found (members table.edges) ×
      IsSaturated table.graph.now table.procedure table.found (members table.edges) Aside

  -- the table keeps each edge that a choice of the flow leads to from this edge
  abbrev pub HasAllNext : Flow GraphAlloc → PathEdge → Table GraphAlloc Alloc Edges → Type 0
  HasAllNext flow edge table = (next : Triple) → IsNext flow edge next → Member next (members table.edges)

  -- The edges kept are reached by the messages taken, and no more than the limit; unless the table has failed,
  -- nothing is missing, except what pending edges still lead to; if it has failed for its limit, more edges than
  -- that are reached.
  pub record IsTable (table : Table GraphAlloc Alloc Edges) : Type 0 where
    pub edges : (item : Triple) → Member item (members table.edges) → IsReached table item
    pub within : length (members table.edges) ≤ limit_of table
    pub holds : table.fault ≡ None → Holds (λ item. ⊥) table
    pub many : table.fault ≡ Some EdgeLimit → HasMore (limit_of table) (IsReached table)

  -- The table has taken nothing and answered nothing, and has not failed.
  pub record IsNew (fresh : Table GraphAlloc Alloc Edges) : Type 0 where
    pub table : IsTable fresh
    pub nothing : (message : NumberedMessage) → TookMessage fresh.found message → ⊥
    pub answered : answers_of fresh ≡ []
    pub fault : fresh.fault ≡ None

  -- Triples were to be added to the edges kept, with this result; nothing else of the table changes, except what is
  -- pending.
  pub record AddsEdges (W : Triple → Type 0) {Returned : Type 0} (answer : Result Returned TableFault)
      (old new : Table GraphAlloc Alloc Edges) : Type 0 where
    pub adds : Adds W answer (limit_of old) (members old.edges) (members new.edges) old.found.pending.items new.found.pending.items
    pub rest : new ≡ record old { edges = new.edges; found = record old.found { pending = new.found.pending } }

  -- the table keeps the edge that was found
  abbrev pub IsThere : Result (Option PathEdge) TableFault → Table GraphAlloc Alloc Edges → Type 0
  IsThere answer table = (reached : Triple) → IsFoundBy answer reached → Member reached (members table.edges)

  -- Triples, at most one of them new, were to be added to the edges kept, with this result: the one that is new is
  -- found, and not pending. Nothing else of the table changes.
  pub record FindsEdge (W : Triple → Type 0) (answer : Result (Option PathEdge) TableFault) (old new : Table GraphAlloc Alloc Edges)
      : Type 0 where
    pub adds : Adds W answer (limit_of old) (members old.edges) (members new.edges) old.found.pending.items
        (beside answer old.found.pending.items)
    pub found : OnOk answer (AddsOnly (IsFoundBy answer) (members old.edges) (members new.edges))
    pub there : IsThere answer new
    pub rest : new ≡ record old { edges = new.edges }

  -- The table has worked, with this result. It is that of the same procedure; the edges kept are reached by the
  -- messages taken, and no more than the limit. On Ok nothing is missing, except what pending edges and the edges
  -- left aside still lead to, and no message was answered; if the answer is that the limit is passed, more edges
  -- than that are reached.
  pub record Worked (Aside : Triple → Type 0) {Returned : Type 0} (answer : Result Returned TableFault)
      (old new : Table GraphAlloc Alloc Edges) : Type 0 where
    pub holds : OnOk answer (Holds Aside new)
    pub edges : (item : Triple) → Member item (members new.edges) → IsReached new item
    pub within : length (members new.edges) ≤ limit_of new
    pub many : answer ≡ Err EdgeLimit → HasMore (limit_of new) (IsReached new)
    pub answers : OnOk answer (answers_of new ≡ answers_of old)
    pub stays : StaysAs old new
    pub fault : new.fault ≡ old.fault

  -- The table was given a message to take, with this result. It is that of the same procedure, and has failed if the
  -- answer is a fault. On Ok it has taken the message, and answered none; it has taken no other; once failed, it
  -- returns that from then on.
  pub record TableTakes (message : Due) {Returned : Type 0} (answer : Result Returned TableFault)
      (old new : Table GraphAlloc Alloc Edges) : Type 0 where
    pub table : IsTable new
    pub taken : OnOk answer (TookAlso message old.found new.found)
    pub only : TookOnly message old.found new.found
    pub answers : OnOk answer (answers_of new ≡ answers_of old)
    pub stays : StaysAs old new
    pub fault : new.fault ≡ fault_in answer
    pub again : (fault_now : TableFault) → old.fault ≡ Some fault_now → answer ≡ Err fault_now

  -- The table is that of the same procedure, has taken the same messages, and has this fault, if there is one.
  pub record KeepsTable (fault_now : Option TableFault) (old new : Table GraphAlloc Alloc Edges) : Type 0 where
    pub table : IsTable new
    pub taken : TookSame old.found new.found
    pub stays : StaysAs old new
    pub fault : new.fault ≡ fault_now

  -- as many more edges became pending as were found
  abbrev pub IsLess : Table GraphAlloc Alloc Edges → Table GraphAlloc Alloc Edges → Type 0
  IsLess old new =
      (length new.found.pending.items + length (members old.edges) ≡ length old.found.pending.items + length (members new.edges))
      × (length (members old.edges) ≤ length (members new.edges))

  -- as many more edges became pending, counting the one found last, as were found
  abbrev pub IsLessBeside : Result (Option PathEdge) TableFault → Table GraphAlloc Alloc Edges → Table GraphAlloc Alloc Edges → Type 0
  IsLessBeside answer old new =
      (length (beside answer new.found.pending.items) + length (members old.edges)
      ≡ length old.found.pending.items + length (members new.edges))
      × (length (members old.edges) ≤ length (members new.edges))

  -- no more edges became pending than were found
  abbrev pub IsNoMore : Table GraphAlloc Alloc Edges → Table GraphAlloc Alloc Edges → Type 0
  IsNoMore old new =
      (length new.found.pending.items + length (members old.edges) ≤ length old.found.pending.items + length (members new.edges))
      × (length (members old.edges) ≤ length (members new.edges))

  -- twice as many edges as there may still be, and those pending
  abbrev pub work_left : Table GraphAlloc Alloc Edges → ℕ
  work_left table = 2 * (limit_of table - length (members table.edges)) + length table.found.pending.items

  -- By the messages taken the edges kept are what is reached, and the messages answered are what is sent.
  pub record IsQuiet (table : Table GraphAlloc Alloc Edges) : Type 0 where
    pub edges : (own point values : ℕ)
        → GraphReaches table.graph.now (TookMessage table.found) own point values ↔ Member (triple own point values) (members table.edges)
    pub sends : (other : ℕ) (message : NumberedMessage) →
        Sends table.graph.now table.procedure (TookMessage table.found) other message
        ↔ Member (mail other (due_of message)) (answers_of table)
    pub leaves : (own : ℕ) (exit : Exit)
        → HasExit table.found own exit ↔ Leaves table.graph.now (TookMessage table.found) own exit
