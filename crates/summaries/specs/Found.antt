-- What a table holds is reached and sent, and nothing that is reached or sent is missing, except what pending
-- edges still lead to.
use Rattle.std.specs.Prelude.{◌≡◌, ◌≤◌, ◌<◌, ◌⊎◌, ◌↔◌, ℕ, Bool, false, List, [], Some, nat_eq}
use Rattle.std.specs.Prelude.{Option, None, unwrap_or, slice_get, take}
use Rattle.std.specs.Prelude.{get_or, length, map}
use Rattle.indexmap.specs.IndexMap.{keys}
use Rattle.language.specs.Sequential.{Caller, caller}
use Rattle.language.specs.Lists.{Member, NoneTwice}
use Rattle.path_sets.specs.Triples.{Triple, triple}
use Rattle.flow_graph.specs.Drawn.{flows_of, opening_point}
use Rattle.flow_graph.specs.Flows.{last_of, next_of, entered_by}
use Rattle.flow_graph.specs.Returns.{left_by, resumed_at}
use Rattle.flow_graph.specs.Numbers.{NumberedMessage, numbered_entry, numbered_summary, GraphReaches, Sends, Leaves}
use Rattle.flow_graph.specs.declared.flow.Flow.{Flow}
use Rattle.flow_graph.specs.declared.graph.Graph.{Graph}
use Rattle.flow_graph.specs.declared.exit.Exit.{Exit}
use Rattle.summaries.specs.declared.due.Due.{Due}
use Rattle.summaries.specs.declared.due.Due.TheVariants.{Entry, Summary}
use Rattle.summaries.specs.declared.edge.PathEdge.{PathEdge}
use Rattle.summaries.specs.declared.edge.CallKey.{CallKey}
use Rattle.summaries.specs.declared.pair.Pair.{Pair}
use Rattle.summaries.specs.declared.found.Found.{Found}
use Rattle.summaries.specs.declared.outbox.Outgoing.{Outgoing}
use Rattle.summaries.specs.declared.outbox.Outgoing.TheVariants.{EntryFor, SummaryFor}
use Rattle.summaries.specs.declared.due.Caller.TheVariants.{Proc}
use Rattle.groups.specs.Under.{under}
use Rattle.summaries.specs.Calls.{sites_of, summaries_of}
pub use Rattle.summaries.specs.Exits.{pair}
use Rattle.summaries.specs.Exits.{pair_at, ArePairsOnce}
use Rattle.summaries.specs.Mails.{AddressedMail, mail, summary_due}
use Rattle.summaries.specs.Dues.{due_of}
use Rattle.summaries.specs.Grows.{EntersAt}

-- the path edge of these three; a call stands at one, its site
abbrev pub path_edge : ℕ → ℕ → ℕ → PathEdge
path_edge entry point values = record { entry = entry; point = point; values = values }

-- the call of this procedure with this entry valuation
abbrev pub call : ℕ → ℕ → CallKey
call callee entered = record { callee = callee; entered = entered }

-- what is left: these globals, and this result
abbrev pub left : ℕ → Bool → Exit
left globals result = record { globals = globals; result = result }

-- the message that this call is entered by the procedure
abbrev pub entry_mail : ℕ → CallKey → AddressedMail
entry_mail procedure entered = mail entered.callee (Entry (Proc procedure) entered.entered)

-- the message to a caller that the procedure has this pair
abbrev pub summary_mail : ℕ → ℕ → Pair → AddressedMail
summary_mail procedure to found = mail to (summary_due procedure found.a (left found.b found.r))

module _ (calls : List CallKey) (pairs : ℕ → Option Pair) where
  -- the message that a procedure of these calls and pairs has given by this
  abbrev pub mail_of : ℕ → Outgoing → AddressedMail
  mail_of procedure (EntryFor at) = entry_mail procedure (get_or calls at (call 0 0))
  mail_of procedure (SummaryFor to at) = summary_mail procedure to (unwrap_or (pairs at) (pair 0 (left 0 false)))

  -- what the message tells of is at its place
  abbrev pub IsPlaced : Outgoing → Type 0
  IsPlaced (EntryFor at) = at < length calls
  IsPlaced (SummaryFor to at) = (told : Pair) × (pairs at ≡ Some told)

module _ {Alloc : Type 0} where
  -- the calls that something is known of, each once, in the order in which they came
  abbrev pub calls_in : Found Alloc → List CallKey
  calls_in found = keys found.calls.by_key

  -- the pair at a place, if any
  abbrev pub pairs_in : Found Alloc → ℕ → Option Pair
  pairs_in found = pair_at found.exits

  -- the messages that the procedure has given, in order
  abbrev pub mails_in : ℕ → Found Alloc → List AddressedMail
  mails_in procedure found = map (mail_of (calls_in found) (pairs_in found) procedure) found.outbox.sent.items

  -- those that are answered
  abbrev pub answers_in : ℕ → Found Alloc → List AddressedMail
  answers_in procedure found = take found.outbox.answered (mails_in procedure found)

module _ {Alloc : Type 0} (found : Found Alloc) where
  -- the table has taken the message
  abbrev pub TookDue : Due → Type 0
  TookDue (Entry from entered) = Member from (under nat_eq found.entries.by_key entered)
  TookDue (Summary callee result entered globals) =
      Member (left globals result) (summaries_of found.calls (call callee entered))

  -- the table has taken the message of these numbers
  abbrev pub TookMessage : NumberedMessage → Type 0
  TookMessage message = TookDue (due_of message)

  -- a call of this procedure with this entry valuation stands at this site
  abbrev pub HasSite : ℕ → ℕ → PathEdge → Type 0
  HasSite callee entered place = Member place (sites_of found.calls (call callee entered))

  -- this is left if the entry valuation was this
  abbrev pub HasExit : ℕ → Exit → Type 0
  HasExit entry exit = (at : ℕ) × (pairs_in found at ≡ Some (pair entry exit))

  -- the message of these numbers was given by a procedure to another
  abbrev pub HasGiven : ℕ → ℕ → NumberedMessage → Type 0
  HasGiven procedure to message = Member (mail to (due_of message)) (mails_in procedure found)

  -- The message of these numbers is owed to a procedure by the one with this number: an entry, for a site of that
  -- call, or a summary, for an exit of it and the caller's entry.
  abbrev pub IsOwed : ℕ → ℕ → NumberedMessage → Type 0
  IsOwed procedure to (numbered_entry from entered) = (from ≡ caller procedure) × ((item : PathEdge) × HasSite to entered item)
  IsOwed procedure to (numbered_summary callee entry exit) = (callee ≡ procedure) × HasExit entry exit
      × TookMessage (numbered_entry (caller to) entry)

  -- the edge is still to be worked on
  abbrev pub IsPending : ℕ → ℕ → ℕ → Type 0
  IsPending entry point values = Member (path_edge entry point values) found.pending.items

  -- What is kept by place: each message given has one; no call and no pair has two.
  pub record IsIndexed : Type 0 where
    pub placed : (item : Outgoing) → Member item found.outbox.sent.items → IsPlaced (calls_in found) (pairs_in found) item
    pub calls_once : NoneTwice (calls_in found)
    pub pairs_once : ArePairsOnce (pairs_in found)

-- from some valuation that choice 0 leads to this one each choice leads to an edge
abbrev pub IsExpanded : {GraphAlloc : Type 0} → Graph GraphAlloc → List Triple → PathEdge → Type 0
IsExpanded {GraphAlloc} graph edges led =
    (flow : Flow GraphAlloc) × (from : ℕ) × (n : ℕ) × (slice_get (flows_of graph) led.point ≡ Some flow)
    × (next_of flow from 0 ≡ Some (n, led.values))
    × ((choice next next_values : ℕ) → choice ≤ last_of flow → next_of flow from choice ≡ Some (next, next_values)
    → Member (triple led.entry next next_values) edges)

module _ {Alloc GraphAlloc : Type 0} (graph : Graph GraphAlloc) (procedure : ℕ) (found : Found Alloc) (edges : List Triple) where
  -- Each edge is reached by the messages taken, each site at its call, and each exit; each message given is owed; what
  -- is pending is an edge; no caller enters twice with a valuation.
  pub record IsGrounded : Type 0 where
    pub edge : (own point values : ℕ) → Member (triple own point values) edges → GraphReaches graph (TookMessage found) own point values
    pub site : (other entered own point values : ℕ) → HasSite found other entered (path_edge own point values) →
        GraphReaches graph (TookMessage found) own point values × ((back : ℕ) × EntersAt graph point values other entered back)
    pub exit : (own : ℕ) (b : Exit) → HasExit found own b → Leaves graph (TookMessage found) own b
    pub given : (other : ℕ) (message : NumberedMessage) → HasGiven found procedure other message → IsOwed found procedure other message
    pub pending : (own point values : ℕ) → IsPending found own point values → Member (triple own point values) edges
    pub callers_once : (own : ℕ) → NoneTwice (under nat_eq found.entries.by_key own)
    pub indexed : IsIndexed found

  -- The edge is worked on: where its choices lead are edges, its call stands as a site, and at the exit what it leaves
  -- as an exit.
  pub record IsWorked (entry point values : ℕ) : Type 0 where
    pub flows : (flow : Flow GraphAlloc) (choice next next_values : ℕ) → slice_get (flows_of graph) point ≡ Some flow
        → choice ≤ last_of flow →
        next_of flow values choice ≡ Some (next, next_values) →
        Member (triple entry next next_values) edges
    pub calls : (flow : Flow GraphAlloc) (other entered next : ℕ) → slice_get (flows_of graph) point ≡ Some flow
        → entered_by flow values ≡ Some (other, entered, next) →
        HasSite found other entered (path_edge entry point values)
    pub leaves : point ≡ 0 → HasExit found entry (left_by graph values)

  -- The start of each entry is an edge; each edge is pending, worked on, or one of those left aside; where a site and
  -- a summary meet is the edge after the call; each site's entry is given; where an exit and a caller's entry meet is
  -- the summary given; each edge remembered as led is.
  pub record IsSaturated (Aside : Triple → Type 0) : Type 0 where
    pub begun : (from : Caller) (own : ℕ) → TookMessage found (numbered_entry from own)
        → Member (triple own (opening_point graph) own) edges
    pub worked : (own point values : ℕ) → Member (triple own point values) edges
        → Aside (triple own point values) ⊎ (IsPending found own point values ⊎ IsWorked own point values)
    pub ended : (other entered : ℕ) (exit : Exit) (own point values back : ℕ) → HasSite found other entered (path_edge own point values)
        → EntersAt graph point values other entered back →
        TookMessage found (numbered_summary other entered exit) → Member (triple own back (resumed_at graph point values exit)) edges
    pub asks : (other entered own point values : ℕ) → HasSite found other entered (path_edge own point values)
        → HasGiven found procedure other (numbered_entry (caller procedure) entered)
    pub tells : (own : ℕ) (exit : Exit) (c : ℕ) → HasExit found own exit → TookMessage found (numbered_entry (caller c) own)
        → HasGiven found procedure c (numbered_summary procedure own exit)
    pub led : (item : PathEdge) → Member item found.expanded.keys → IsExpanded graph edges item

-- no edge is still to be worked on
abbrev pub IsWorkedOff : {Alloc : Type 0} → Found Alloc → Type 0
IsWorkedOff found = found.pending.items ≡ []

-- By the messages taken the edges are what is reached, and the messages given are what is sent.
abbrev pub IsExact : {Alloc GraphAlloc : Type 0} → Graph GraphAlloc → ℕ → Found Alloc → List Triple → Type 0
IsExact graph procedure found edges =
    ((own point values : ℕ) → GraphReaches graph (TookMessage found) own point values ↔ Member (triple own point values) edges)
    × ((other : ℕ) (message : NumberedMessage)
    → Sends graph procedure (TookMessage found) other message ↔ HasGiven found procedure other message)

-- nothing is found
pub record IsEmpty {Alloc : Type 0} (found : Found Alloc) : Type 0 where
  pub entries : (own : ℕ) → under nat_eq found.entries.by_key own ≡ []
  pub summaries : (called : CallKey) → summaries_of found.calls called ≡ []
  pub sites : (called : CallKey) → sites_of found.calls called ≡ []
  pub calls : calls_in found ≡ []
  pub pairs : (at : ℕ) → pairs_in found at ≡ None
  pub given : found.outbox.sent.items ≡ []
  pub led : found.expanded.keys ≡ []
  pub pending : found.pending.items ≡ []
