-- The tables of all procedures together, while a program is tabulated.
use Rattle.std.specs.Prelude.{◌≡◌, ◌<◌, ◌⊎◌, ◌↔◌, ℕ, nat_eq, Option, Some, None, List, length, map, slice_get}
use Rattle.language.specs.Step.{Program}
use Rattle.language.specs.Sequential.{IsDue}
use Rattle.language.specs.Lists.{Member}
use Rattle.language.specs.Messages.{ArgumentsFit}
use Rattle.path_sets.specs.Triples.{Triple}
use Rattle.flow_graph.specs.Graphs.{IsInTextOrder, IsGraph, AreDrawnFrom}
use Rattle.flow_graph.specs.Numbers.{NumberedMessage, IsNumberOf}
use Rattle.summaries.specs.declared.due.Caller.{Caller}
use Rattle.summaries.specs.declared.due.Caller.TheVariants.{Starter}
use Rattle.summaries.specs.declared.due.Due.TheVariants.{Entry}
use Rattle.summaries.specs.declared.exits.Exits.{Exits}
use Rattle.summaries.specs.declared.found.Found.{Found}
use Rattle.groups.specs.declared.groups.Groups.{Groups}
use Rattle.summaries.specs.declared.pair.Pair.{Pair}
use Rattle.summaries.specs.declared.table.Table.{Table}
use Rattle.groups.specs.Under.{under}
use Rattle.summaries.specs.Mails.{AddressedMail, mail}
use Rattle.summaries.specs.Dues.{due_of}
use Rattle.summaries.specs.Exits.{pair_at}
use Rattle.summaries.specs.Found.{TookMessage}
use Rattle.summaries.specs.Tables.{graph_of, procedure_of, limit_of, failure, answers_of, IsTable, IsNew, IsQuiet}
use Rattle.summaries.specs.Effects.{Effect}
use Rattle.summaries.specs.Tabulated.{IsAscending, ArePairsAscending}

-- the starter's message: procedure 0 is entered, and every value is 0
abbrev pub opening : AddressedMail
opening = mail 0 (Entry Starter 0)

module _ {GraphAlloc Alloc Edges : Type 0} where
  -- there is a table, and it has taken the message of these numbers
  abbrev pub IsTaken : Option (Table GraphAlloc Alloc Edges) → NumberedMessage → Type 0
  IsTaken None message = ⊥
  IsTaken (Some table) message = TookMessage table.found message

  -- the receiver's table has taken the message
  abbrev pub IsReceived : List (Table GraphAlloc Alloc Edges) → AddressedMail → Type 0
  IsReceived ts message = (k : NumberedMessage) → due_of k ≡ message.due → IsTaken (slice_get ts message.to) k

  -- each table has this limit on its edges
  abbrev pub HaveLimit : ℕ → List (Table GraphAlloc Alloc Edges) → Type 0
  HaveLimit limit ts = (number : ℕ) (reached : Table GraphAlloc Alloc Edges) → slice_get ts number ≡ Some reached → limit_of reached ≡ limit

-- The summary has the entries that have callers, and the pairs of the exits, both ascending.
pub record IsSummaryOf {Alloc : Type 0} (callers : Groups ℕ Caller Alloc) (exits : Exits Alloc) (summary : Effect) : Type 0 where
  pub ascend : IsAscending summary.entries
  pub entries : (own : ℕ) → Member own summary.entries ↔ ((from : Caller) × Member from (under nat_eq callers.by_key own))
  pub pairs_ascend : ArePairsAscending summary.pairs
  pub pairs : (item : Pair) → Member item summary.pairs ↔ ((at : ℕ) × (pair_at exits at ≡ Some item))

-- The summary has the entries that a table has taken, and the pairs that it has found.
abbrev pub IsReadOff : {Alloc : Type 0} → Found Alloc → Effect → Type 0
IsReadOff found = IsSummaryOf found.entries found.exits

module _ {GraphAlloc Alloc Edges : Type 0} where
  -- The summaries are those of the tables, one for each, in their order.
  pub record AreReadOff (ts : List (Table GraphAlloc Alloc Edges)) (ss : List Effect) : Type 0 where
    pub all : length ss ≡ length ts
    pub each : (number : ℕ) (reached : Table GraphAlloc Alloc Edges) (other : Effect) → slice_get ts number ≡ Some reached
        → slice_get ss number ≡ Some other → IsReadOff reached.found other

module _ {GraphAlloc Alloc Edges : Type 0} (members : Edges → List Triple) where
  -- The table is that of the procedure, works on the flow graph that was drawn from it, and has taken only messages
  -- that are due for it.
  pub record IsTableOf (program : Program) (procedure : ℕ) (its_table : Table GraphAlloc Alloc Edges) : Type 0 where
    pub fit : ArgumentsFit program
    pub in_order : IsInTextOrder program
    pub graph : IsGraph program procedure (graph_of its_table)
    pub number : procedure_of its_table ≡ procedure
    pub table : IsTable members its_table
    pub due : (message : NumberedMessage) → TookMessage its_table.found message → IsNumberOf (IsDue program procedure) message

  -- Each table is that of the procedure with its number, and has taken nothing yet.
  pub record AreNew (ts : List (Table GraphAlloc Alloc Edges)) : Type 0 where
    pub fresh : (q : ℕ) (reached : Table GraphAlloc Alloc Edges) → slice_get ts q ≡ Some reached → IsNew members reached
    pub number : (q : ℕ) (reached : Table GraphAlloc Alloc Edges) → slice_get ts q ≡ Some reached → procedure_of reached ≡ q

  -- The tables are those of the program's procedures, by number, and none has failed; what each has taken is due for
  -- its procedure; and the opening and each message that was answered is taken by its receiver, except for those
  -- left aside.
  pub record AreTables (program : Program) (Aside : AddressedMail → Type 0) (ts : List (Table GraphAlloc Alloc Edges)) : Type 0 where
    pub drawn : AreDrawnFrom program (map graph_of ts)
    pub table : (q : ℕ) (reached : Table GraphAlloc Alloc Edges) → slice_get ts q ≡ Some reached → IsTable members reached
    pub whole : (q : ℕ) (reached : Table GraphAlloc Alloc Edges) → slice_get ts q ≡ Some reached → failure reached ≡ None
    pub number : (q : ℕ) (reached : Table GraphAlloc Alloc Edges) → slice_get ts q ≡ Some reached → procedure_of reached ≡ q
    pub due : (q : ℕ) (reached : Table GraphAlloc Alloc Edges) (message : NumberedMessage) → slice_get ts q ≡ Some reached
        → TookMessage reached.found message
        → IsNumberOf (IsDue program q) message
    pub opened : (reached : Table GraphAlloc Alloc Edges) → slice_get ts 0 ≡ Some reached → Aside opening ⊎ IsReceived ts opening
    pub answers : (q : ℕ) (reached : Table GraphAlloc Alloc Edges) (item : AddressedMail) → slice_get ts q ≡ Some reached
        → Member item (answers_of reached) → Aside item ⊎ IsReceived ts item

  -- no table before this one owes a message
  abbrev pub AreQuietBefore : ℕ → List (Table GraphAlloc Alloc Edges) → Type 0
  AreQuietBefore n ts = (number : ℕ) (reached : Table GraphAlloc Alloc Edges) → number < n → slice_get ts number ≡ Some reached
      → IsQuiet members reached

  -- The tables are those of the program's procedures, have taken all that any of them answered, and owe nothing.
  abbrev pub AreFull : Program → List (Table GraphAlloc Alloc Edges) → Type 0
  AreFull program ts = AreTables program (λ x. ⊥) ts × AreQuietBefore (length ts) ts
