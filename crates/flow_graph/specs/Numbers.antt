-- What a flow graph reaches by the messages that its procedure has, and the messages that it then sends: by numbers.
use Rattle.std.specs.Prelude.{◌≡◌, ◌≤◌, ℕ, Option, Some, List, [], slice_get, slice_index_or}
use Rattle.language.specs.Rest.{Code}
use Rattle.language.specs.Step.{Program}
use Rattle.language.specs.Sequential.{Valuation, Edge, Exit as ExitValues, Pair, Entered, Caller, starter, caller, Message, entry, summary}
use Rattle.language.specs.Sequential.{IsDue}
use Rattle.language.specs.Lists.{Member}
use Rattle.language.specs.Messages.{IsValuationOf, ArgumentsFit}
use Rattle.flow_graph.specs.Nodes.{point_number, point_at}
use Rattle.flow_graph.specs.Flows.{code, exit_code, last_of, next_of, entered_by}
use Rattle.flow_graph.specs.Returns.{left_by, resumed_at}
use Rattle.flow_graph.specs.declared.flow.Flow.{Flow}
use Rattle.flow_graph.specs.declared.graph.Graph.{Graph}
use Rattle.flow_graph.specs.declared.exit.Exit.{Exit}
use Rattle.flow_graph.specs.Drawn.{flows_of, opening_point}
use Rattle.flow_graph.specs.Graphs.{AreGraphs}

-- A message by numbers: an entry has who enters and the number of the entry valuation; a summary has the procedure
-- called and the numbers of its entry valuation and of what it left.
pub data NumberedMessage : Type 0 where
  numbered_entry : Caller → ℕ → NumberedMessage
  numbered_summary : ℕ → ℕ → Exit → NumberedMessage

-- one of these
abbrev pub Among : {Item : Type 0} → List Item → Item → Type 0
Among xs x = Member x xs

-- P holds for each of these
abbrev pub AllAre : {Item : Type 0} → (Item → Type 0) → List Item → Type 0
AllAre {Item} P xs = (item : Item) → Member item xs → P item

-- the message by numbers
abbrev pub by_numbers : Message → NumberedMessage
by_numbers (entry from entered) = numbered_entry from (code entered)
by_numbers (summary callee entered exit) = numbered_summary callee (code entered) (exit_code exit)

-- By the messages for which M holds, the graph reaches from the number of an entry a point with the number of a
-- valuation: its start from each entry, what a flow leads to for one of its choices, and, after a call, what a
-- summary of it leads to.
pub data GraphReaches {Alloc : Type 0} (graph : Graph Alloc) (Taken : NumberedMessage → Type 0) : ℕ → ℕ → ℕ → Type 0 where
  starts : (from : Caller) (own : ℕ) → Taken (numbered_entry from own) → GraphReaches graph Taken own (opening_point graph) own
  flows : (own point values next next_values choice : ℕ) (flow : Flow Alloc) → GraphReaches graph Taken own point values →
      slice_get (flows_of graph) point ≡ Some flow → choice ≤ last_of flow →
      next_of flow values choice ≡ Some (next, next_values) → GraphReaches graph Taken own next next_values
  returns : (own point values other entered next : ℕ) (exit : Exit) (flow : Flow Alloc) → GraphReaches graph Taken own point values →
      slice_get (flows_of graph) point ≡ Some flow → entered_by flow values ≡ Some (other, entered, next)
      → Taken (numbered_summary other entered exit) →
      GraphReaches graph Taken own next (resumed_at graph point values exit)

-- By the messages for which M holds, the graph of a procedure sends another: the entry of each call of it that
-- is reached, and for each of its entries the summary of each valuation that is reached at the exit.
pub data Sends {Alloc : Type 0} (graph : Graph Alloc) (procedure : ℕ) (Taken : NumberedMessage → Type 0) :
    ℕ → NumberedMessage → Type 0 where
  asks : (own point values other entered next : ℕ) (flow : Flow Alloc) → GraphReaches graph Taken own point values
      → slice_get (flows_of graph) point ≡ Some flow →
      entered_by flow values ≡ Some (other, entered, next) → Sends graph procedure Taken other (numbered_entry (caller procedure) entered)
  tells : (own values other : ℕ) → Taken (numbered_entry (caller other) own) → GraphReaches graph Taken own 0 values →
      Sends graph procedure Taken other (numbered_summary procedure own (left_by graph values))

-- By the messages for which M holds, what the graph leaves has the numbers `exit` if it was entered with that of
-- `entered`.
abbrev pub Leaves : {Alloc : Type 0} → Graph Alloc → (NumberedMessage → Type 0) → ℕ → Exit → Type 0
Leaves graph M entered exit = (values : ℕ) × GraphReaches graph M entered 0 values × (exit ≡ left_by graph values)

-- the message is, by numbers, one for which P holds
abbrev pub IsNumberOf : (Message → Type 0) → NumberedMessage → Type 0
IsNumberOf P message = (m : Message) × P m × (message ≡ by_numbers m)

-- the numbers are those of two valuations, and of the point of a rest, for which P holds
abbrev pub AreNumbersOf : (Valuation → Valuation → Code → Type 0) → ℕ → ℕ → ℕ → Type 0
AreNumbersOf P entered point values =
    (valuation : Valuation) × (later : Valuation) × (rest : Code) × P valuation later rest × (entered ≡ code valuation)
    × (point ≡ point_at rest) × (values ≡ code later)

-- the number is that of a valuation of the procedure
abbrev pub IsNumberOfValuation : Program → ℕ → ℕ → Type 0
IsNumberOfValuation program procedure values = (valuation : Valuation) × IsValuationOf program procedure valuation
    × (values ≡ code valuation)

-- the number is that of a valuation with which the procedure is entered
abbrev pub IsNumberOfEntry : Program → ℕ → ℕ → Type 0
IsNumberOfEntry program procedure entered = (valuation : Valuation) × Entered program procedure valuation × (entered ≡ code valuation)

-- the numbers are those of a path edge of the procedure: of its entry valuation, its point and its valuation there
abbrev pub AreNumbersOfEdge : Program → ℕ → ℕ → ℕ → ℕ → Type 0
AreNumbersOfEdge program procedure entered at values =
    (valuation : Valuation) × (later : Valuation) × (point : Option ℕ) × Edge program procedure valuation point later
    × (entered ≡ code valuation) × (at ≡ point_number point) × (values ≡ code later)

-- the numbers are those of a pair of the procedure
abbrev pub AreNumbersOfPair : Program → ℕ → ℕ → Exit → Type 0
AreNumbersOfPair program procedure entered exit = (valuation : Valuation) × (left : ExitValues) × Pair program procedure valuation left
    × (entered ≡ code valuation)
    × (exit ≡ exit_code left)

-- The message is one that the procedure took, where lists hold what each procedure took, by its number.
abbrev pub HasTaken : List (List NumberedMessage) → ℕ → NumberedMessage → Type 0
HasTaken takes procedure message = Member message (slice_index_or takes procedure [])

-- procedure 0 took the starter's entry, in which every value is 0
abbrev pub TakesOpening : List (List NumberedMessage) → Type 0
TakesOpening takes = HasTaken takes 0 (numbered_entry starter 0)

-- each message that a procedure's graph sends by what the procedure took, its receiver took
abbrev pub TakesSent : {Alloc : Type 0} → List (Graph Alloc) → List (List NumberedMessage) → Type 0
TakesSent {Alloc} graphs takes =
    (number other : ℕ) (graph : Graph Alloc) (message : NumberedMessage) → slice_get graphs number ≡ Some graph →
    Sends graph number (HasTaken takes number) other message → HasTaken takes other message

-- each message that a procedure took is one that is due for it
abbrev pub TakesDue : Program → List (List NumberedMessage) → Type 0
TakesDue program takes = (number : ℕ) (message : NumberedMessage) → HasTaken takes number message
    → IsNumberOf (IsDue program number) message

-- If these are the graphs of a program whose calls fit, its procedures took, by numbers, the opening message, each
-- message that is sent, and no message that is not due.
pub record TookAllDue {Alloc : Type 0} (program : Program) (graphs : List (Graph Alloc)) (takes : List (List NumberedMessage)) :
    Type 0 where
  pub fit : ArgumentsFit program
  pub are : AreGraphs program graphs
  pub opening : TakesOpening takes
  pub sent : TakesSent graphs takes
  pub due : TakesDue program takes
