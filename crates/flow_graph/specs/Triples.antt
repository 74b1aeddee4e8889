-- Lists of triples that hold all that a graph reaches, and lists of messages that hold all that it sends. A triple
-- has the number of an entry, a point, and the number of a valuation; a message is paired with the procedure that it
-- is for.
use Rattle.std.specs.Prelude.{◌≡◌, ◌↔◌, ◌≤◌, ℕ, Some, List, slice_get}
use Rattle.language.specs.Sequential.{Caller, caller}
use Rattle.language.specs.Lists.{Member}
use Rattle.flow_graph.specs.Flows.{last_of, next_of, entered_by}
use Rattle.flow_graph.specs.Returns.{left_by, resumed_at}
use Rattle.flow_graph.specs.Numbers.{NumberedMessage, numbered_entry, numbered_summary, Among, GraphReaches, Sends}
use Rattle.flow_graph.specs.declared.flow.Flow.{Flow}
use Rattle.flow_graph.specs.declared.graph.Graph.{Graph}
use Rattle.flow_graph.specs.declared.exit.Exit.{Exit}
use Rattle.flow_graph.specs.Drawn.{flows_of, opening_point}

-- the triples hold the start of each entry of these messages
abbrev pub HoldStarts : {Alloc : Type 0} → Graph Alloc → List NumberedMessage → List (ℕ × ℕ × ℕ) → Type 0
HoldStarts graph ms ts =
    (from : Caller) (own : ℕ) → Member (numbered_entry from own) ms → Member (own, opening_point graph, own) ts

-- with each triple they hold what a flow leads to from it
abbrev pub HoldFlows : {Alloc : Type 0} → Graph Alloc → List (ℕ × ℕ × ℕ) → Type 0
HoldFlows {Alloc} graph ts =
    (own point values next next_values choice : ℕ) (flow : Flow Alloc) → Member (own, point, values) ts
    → slice_get (flows_of graph) point ≡ Some flow →
    choice ≤ last_of flow → next_of flow values choice ≡ Some (next, next_values) → Member (own, next, next_values) ts

-- with each triple at a call they hold what each summary of the call among these messages leads to
abbrev pub HoldReturns : {Alloc : Type 0} → Graph Alloc → List NumberedMessage → List (ℕ × ℕ × ℕ) → Type 0
HoldReturns {Alloc} graph ms ts =
    (own point values other entered next : ℕ) (exit : Exit) (flow : Flow Alloc) → Member (own, point, values) ts
    → slice_get (flows_of graph) point ≡ Some flow →
    entered_by flow values ≡ Some (other, entered, next) →
    Member (numbered_summary other entered exit) ms → Member (own, next, resumed_at graph point values exit) ts

-- with each triple at a call of the procedure's the messages sent hold the entry for the procedure called
abbrev pub HoldAsks : {Alloc : Type 0} → Graph Alloc → ℕ → List (ℕ × ℕ × ℕ) → List (ℕ × NumberedMessage) → Type 0
HoldAsks {Alloc} graph procedure ts sent =
    (own point values other entered next : ℕ) (flow : Flow Alloc) → Member (own, point, values) ts
    → slice_get (flows_of graph) point ≡ Some flow →
    entered_by flow values ≡ Some (other, entered, next) →
    Member (other, numbered_entry (caller procedure) entered) sent

-- with each triple of the procedure's at the exit they hold the summary for each one that entered it so, by these
-- messages
abbrev pub HoldTells : {Alloc : Type 0} → Graph Alloc → ℕ → List NumberedMessage → List (ℕ × ℕ × ℕ) →
    List (ℕ × NumberedMessage) → Type 0
HoldTells graph procedure ms ts sent =
    (own values other : ℕ) → Member (numbered_entry (caller other) own) ms → Member (own, 0, values) ts →
    Member (other, numbered_summary procedure own (left_by graph values)) sent

-- the triples are those that the graph reaches by these messages
abbrev pub AreReached : {Alloc : Type 0} → Graph Alloc → List NumberedMessage → List (ℕ × ℕ × ℕ) → Type 0
AreReached graph ms ts = (own point values : ℕ) → Member (own, point, values) ts ↔ GraphReaches graph (Among ms) own point values

-- the messages are those that the graph of the procedure sends by these
abbrev pub AreSent : {Alloc : Type 0} → Graph Alloc → ℕ → List NumberedMessage → List (ℕ × NumberedMessage) → Type 0
AreSent graph procedure ms sent = (other : ℕ) (message : NumberedMessage)
    → Member (other, message) sent ↔ Sends graph procedure (Among ms) other message
