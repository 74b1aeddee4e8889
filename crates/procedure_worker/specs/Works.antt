-- What a worker knows while it works, and what it returns.
use Rattle.std.specs.Prelude.{◌≡◌, ◌≢◌, ◌⊎◌, ◌↔◌, ◌<◌, ◌++◌, ◌∷◌, ℕ, Bool, true, false, IsSome, List, [], Option}
use Rattle.std.specs.Prelude.{Some, None, Result, Ok, Err, MatchResult, length, map}
use Rattle.std.specs.Bool.{OnFalse}
use Rattle.atomic_table.specs.Seated.{TableId}
use Rattle.post_ledger.specs.Orders.{own, HasJob, IsClosed}
use Rattle.post_ledger.specs.declared.entry.Entry.{Entry}
use Rattle.post_ledger.specs.declared.entry.Entry.TheVariants.{Posted}
use Rattle.ticket_lock.specs.History.{StartsWith}
use Rattle.language.specs.Step.{Program}
use Rattle.language.specs.Lists.{Member}
use Rattle.path_sets.specs.Triples.{Triple}
use Rattle.flow_graph.specs.declared.graph.Graphs.{Graphs}
use Rattle.flow_graph.specs.Drawn.{graphs_of}
use Rattle.flow_graph.specs.Graphs.{AreDrawnFrom}
use Rattle.flow_graph.specs.Numbers.{NumberedMessage}
use Rattle.summaries.specs.declared.due.Due.{Due}
use Rattle.summaries.specs.declared.table.Table.{Table}
use Rattle.summaries.specs.declared.table_fault.TableFault.{TableFault}
use Rattle.summaries.specs.declared.table_fault.TableFault.TheVariants as fault
use Rattle.path_sets.specs.declared.edge_limit.EdgeLimit.{EdgeLimit}
use Rattle.path_sets.specs.EdgeLimits.{most_of}
use Rattle.summaries.specs.Mails.{AddressedMail, mail}
use Rattle.summaries.specs.Dues.{due_of}
use Rattle.summaries.specs.Fitting.{FitsIn}
use Rattle.summaries.specs.Found.{TookMessage}
use Rattle.summaries.specs.Tables.{limit_of, answers_of, failure, IsQuiet}
use Rattle.summaries.specs.Tabulated.{HasMoreEdges}
use Rattle.summaries.specs.Together.{opening, IsTableOf}
use Rattle.switchboard.specs.declared.calls.Abort.{Abort}
use Rattle.switchboard.specs.declared.calls.Cause.{Cause}
use Rattle.switchboard.specs.declared.calls.Cause.TheVariants as cause
use Rattle.switchboard.specs.Sights.{Sight, IsSound}
use Rattle.switchboard.specs.declared.calls.Taken.{Taken}
use Rattle.switchboard.specs.declared.calls.Taken.TheVariants as answer
use Rattle.switchboard.specs.Promises.{WasDone, Took, DidTurn, MadeAbort}
use Rattle.procedure_worker.specs.declared.desk.Context.{Context}
use Rattle.procedure_worker.specs.declared.desk.Desk.{Desk}
use Rattle.procedure_worker.specs.declared.outcome.End.{End}
use Rattle.procedure_worker.specs.declared.outcome.End.TheVariants as end
use Rattle.procedure_worker.specs.declared.outcome.Outcome.{Outcome}
use Rattle.procedure_worker.specs.declared.memory.OutOfMemory.{OutOfMemory}
use Rattle.procedure_worker.specs.declared.stop.Reason.{Reason}
use Rattle.procedure_worker.specs.declared.stop.Reason.TheVariants as reason
use Rattle.procedure_worker.specs.declared.worker.Worker.{Worker}
use Rattle.procedure_worker.specs.Own.{messages_taken, posted_in}
use Rattle.procedure_worker.specs.Stops.{StopReason, WorkerEnd, cause_of, end_of, end_at}

-- What a worker begins with: the flow graphs, the number of its procedure, how many path edges its table may keep, and
-- the board.
pub record Start (GraphAlloc : Type 0) : Type 0 where
  pub graphs : Graphs GraphAlloc
  pub number : ℕ
  pub limit : ℕ
  pub board : TableId

-- what a worker begins with, by the values that it is given
abbrev pub begun : {GraphAlloc : Type 0} → Graphs GraphAlloc → ℕ → EdgeLimit → TableId → Start GraphAlloc
begun graphs number limit board = record { graphs = graphs; number = number; limit = most_of limit; board = board }

-- what the worker of a procedure begins with, by what the workers share
abbrev pub begun_in : {R GraphAlloc B K : Type 0} → (B → TableId) → Context R GraphAlloc B K → ℕ → Start GraphAlloc
begun_in identity context number = begun context.graphs.now number context.limit (identity context.board.now)

-- what a worker begins with, by its desk
abbrev pub start_of : {R GraphAlloc B K : Type 0} → (B → TableId) → Desk R GraphAlloc B K → Start GraphAlloc
start_of identity desk = begun_in identity desk.context.now desk.number

-- what was posted, as the table answers it
abbrev pub mails_of : List (ℕ × Due) → List AddressedMail
mails_of posts = map (λ (posted_pair : ℕ × Due). mail posted_pair.0 posted_pair.1) posts

-- why a worker fails, if its table has
abbrev pub cause_for : TableFault → Cause
cause_for fault.Memory = cause.Memory
cause_for fault.EdgeLimit = cause.EdgeLimit

module _ {M W : Type 0} (fits : W → ℕ → M → Type 0) where
  -- the pass has made an abort for this reason's cause, and the worker ends so
  abbrev pub Failed : Reason → WorkerEnd → Sight M W → Sight M W → Type 0
  Failed why e s t = (e ≡ Err (Some why)) × MadeAbort fits (record { by = s.number; cause = cause_of why }) s t

  -- the message is completed; or no call was left, and the worker ends
  abbrev pub Completes : ℕ → Option WorkerEnd → Sight M W → Sight M W → Type 0
  Completes job None s t = WasDone fits job s t
  Completes job (Some e) s t = (s.calls ≡ 0) × Failed reason.Spent e s t

  -- the message is completed, and then a take answers this; or no call was left for one of the two, and the worker ends
  abbrev pub TurnsOrEnds : ℕ → Result (Taken M) WorkerEnd → Sight M W → Sight M W → Type 0
  TurnsOrEnds job (Ok taken) s t = DidTurn fits job taken s t
  TurnsOrEnds job (Err e) s t = ((s.calls ≡ 0) × Failed reason.Spent e s t) ⊎
      ((between : Sight M W) × WasDone fits job s between × (between.calls ≡ 0) × Failed reason.Spent e between t)

  -- the worker ends for this reason: the message is completed if the board was aborted, unless no call was left
  abbrev pub StopsSo : ℕ → StopReason → WorkerEnd → Sight M W → Sight M W → Type 0
  StopsSo job None e s t = ((e ≡ (Err None)) × WasDone fits job s t) ⊎
      ((s.calls ≡ 0) × Failed reason.Spent e s t)
  StopsSo job (Some why) e s t = Failed why e s t

-- the end is at the table's fault, if the table has failed
abbrev pub IsAtFault : {GraphAlloc Alloc S : Type 0} → End → Table GraphAlloc Alloc S → Type 0
IsAtFault e t = (table_fault : TableFault) → failure t ≡ Some table_fault → e ≡ end.Failed (cause_for table_fault)

-- What a worker's end rests on. It failed for lack of memory if and only if there is evidence of a refusal; and if
-- its table has failed, it failed for that fault.
pub record IsFounded {GraphAlloc Alloc S : Type 0} (ending : End) (out_of_memory : Option OutOfMemory)
    (table : Table GraphAlloc Alloc S) : Type 0 where
  pub memory : (ending ≡ end.Failed cause.Memory) ↔ IsSome out_of_memory
  pub fault : IsAtFault ending table

-- the messages that a pass took, in order
abbrev pub took_by : {GraphAlloc : Type 0} → Sight Due (Graphs GraphAlloc) → List Due
took_by s = messages_taken (own s.number s.seen.order)

-- The pass takes no message until that of the job is completed, and then a take answers this.
abbrev pub PostsThenTurns : {GraphAlloc : Type 0} → ℕ → Taken Due → Sight Due (Graphs GraphAlloc) → Sight Due (Graphs GraphAlloc)
    → Type 0
PostsThenTurns {GraphAlloc} job next s t =
    (posted : Sight Due (Graphs GraphAlloc)) × (took_by posted ≡ took_by s) × DidTurn FitsIn job next posted t

-- A worker continues only if it has completed the message that its last take answered, or if that found none and it
-- took again: never behind the close or an abort. `next` is what the take answers that comes then.
abbrev pub MayGoOn : {GraphAlloc : Type 0} → Taken Due → Taken Due → Sight Due (Graphs GraphAlloc) → Sight Due (Graphs GraphAlloc)
    → Type 0
MayGoOn (answer.Message job message) next s t = PostsThenTurns job next s t
MayGoOn answer.Empty next s t = Took FitsIn (Ok next) s t
MayGoOn answer.Closed next s t = ⊥
MayGoOn answer.Aborted next s t = ⊥

-- The order of a board begins with the starter's message, by which procedure 0 is entered with every value 0.
abbrev pub IsOpened : ℕ → List (Entry Due) → Type 0
IsOpened boxes order = StartsWith order (Posted 0 boxes opening.due 0 ∷ [])

module _ {GraphAlloc : Type 0} (b : Start GraphAlloc) where
  -- The pass is that of the procedure, on the board of the graphs, which are some program's, and has seen a sound
  -- order, which the starter's message opened.
  pub record IsPassOf (sight : Sight Due (Graphs GraphAlloc)) : Type 0 where
    pub drawn : (program : Program) × AreDrawnFrom program (graphs_of b.graphs)
    pub board : sight.board ≡ b.board
    pub number : sight.number ≡ b.number
    pub sound : IsSound FitsIn sight.seen
    pub opened : IsOpened (length (graphs_of b.graphs)) sight.seen.order
    pub world : sight.seen.world ≡ b.graphs
    pub boxes : sight.seen.boxes ≡ length (graphs_of b.graphs)

  -- The pass is that of the procedure as its board gave it, opened by the starter's message: it has made no event and
  -- no abort.
  pub record IsFresh (sight : Sight Due (Graphs GraphAlloc)) : Type 0 where
    pub board : sight.board ≡ b.board
    pub number : sight.number ≡ b.number
    pub sound : IsSound FitsIn sight.seen
    pub opened : IsOpened (length (graphs_of b.graphs)) sight.seen.order
    pub world : sight.seen.world ≡ b.graphs
    pub boxes : sight.seen.boxes ≡ length (graphs_of b.graphs)
    pub made : sight.made ≡ false
    pub none : own b.number sight.seen.order ≡ []

  -- the cause really stands: for the limit, the procedure has more path edges; for calls, the pass has none left; that
  -- memory was refused the outcome shows (`IsFounded`)
  abbrev pub HasStood : Cause → Sight Due (Graphs GraphAlloc) → Type 0
  HasStood cause.Memory s = Unit {0}
  HasStood cause.EdgeLimit s = (program : Program) → AreDrawnFrom program (graphs_of b.graphs) → HasMoreEdges program b.number b.limit
  HasStood cause.NoWorker s = ⊥
  HasStood cause.Spent s = s.calls ≡ 0

  -- the reason to stop stands: the board was aborted, or the cause
  abbrev pub StoppedFor : StopReason → Sight Due (Graphs GraphAlloc) → Type 0
  StoppedFor None s = IsSome s.seen.aborted
  StoppedFor (Some why) s = HasStood (cause_of why) s

  -- The pass has made an abort for this cause, which has stood; the abort that the board keeps is this one, or
  -- another pass's.
  pub record HasFailed (cause_now : Cause) (sight : Sight Due (Graphs GraphAlloc)) : Type 0 where
    pub made : sight.made ≡ true
    pub abort : Abort
    pub kept : sight.seen.aborted ≡ Some abort
    pub first : (abort ≡ record { by = b.number; cause = cause_now }) ⊎ (abort.by ≢ b.number)
    pub stood : HasStood cause_now sight

  module _ {Alloc S : Type 0} (members : S → List Triple) where
    -- The table is that of the procedure, in each program that the graphs are drawn from, and has taken only what its
    -- pass took. The lists are what the pass took and posted.
    pub record Stands (sight : Sight Due (Graphs GraphAlloc)) (t : Table GraphAlloc Alloc S) (took : List Due)
        (sent : List (ℕ × Due)) : Type 0 where
      pub pass : IsPassOf sight
      pub table : (program : Program) → AreDrawnFrom program (graphs_of b.graphs) → IsTableOf members program b.number t
      pub limit : limit_of t ≡ b.limit
      pub only : (numbered : NumberedMessage) → TookMessage t.found numbered → Member (due_of numbered) took
      pub takes : messages_taken (own b.number sight.seen.order) ≡ took
      pub posts : posted_in (own b.number sight.seen.order) ≡ sent

    -- It has made no abort, and its table has not failed and has taken all that the pass took.
    pub record Goes (sight : Sight Due (Graphs GraphAlloc)) (table : Table GraphAlloc Alloc S) (took : List Due)
        (sent : List (ℕ × Due)) : Type 0 where
      pub stands : Stands sight table took sent
      pub made : sight.made ≡ false
      pub whole : failure table ≡ None
      pub all : (numbered : NumberedMessage) → Member (due_of numbered) took → TookMessage table.found numbered

    -- All that the table answered is posted.
    abbrev pub HasSent : Sight Due (Graphs GraphAlloc) → Table GraphAlloc Alloc S → List Due → List (ℕ × Due) → Type 0
    HasSent s t took sent = Goes s t took sent × (mails_of sent ≡ answers_of t)

    -- All that the messages taken imply is posted.
    abbrev pub HasServed : Sight Due (Graphs GraphAlloc) → Table GraphAlloc Alloc S → List Due → List (ℕ × Due) → Type 0
    HasServed s t took sent = HasSent s t took sent × IsQuiet members t

    -- How a worker ends: at the close, which its pass knows, with all posted that the messages taken imply; at another
    -- pass's abort; or at an abort of its own.
    abbrev pub EndsSo : End → Sight Due (Graphs GraphAlloc) → Table GraphAlloc Alloc S → List Due → List (ℕ × Due) → Type 0
    EndsSo end.Closed s t took sent = HasServed s t took sent × (s.knows ≡ true) × IsClosed s.seen.order
    EndsSo end.Aborted s t took sent = Stands s t took sent × (s.made ≡ false) × IsSome s.seen.aborted
    EndsSo (end.Failed c) s t took sent = Stands s t took sent × HasFailed c s

    -- the outcome has a table, and the worker ended so with it, on what the end rests on
    abbrev pub HasEnded : Sight Due (Graphs GraphAlloc) → Outcome GraphAlloc Alloc S → Type 0
    HasEnded s o =
        (t : Table GraphAlloc Alloc S) × (o.table ≡ Some t)
        × ((took : List Due) × (sent : List (ℕ × Due)) × EndsSo o.end s t took sent) × IsFounded o.end o.out_of_memory t

    module _ {P : Type 0} where
      -- The worker without a message: it has posted all that is implied by those that it took.
      pub record IsReady (sight : Sight Due (Graphs GraphAlloc)) (worker : Worker P GraphAlloc Alloc S) : Type 0 where
        pub took : List Due
        pub sent : List (ℕ × Due)
        pub served : HasServed sight worker.table took sent

      -- The worker has taken a message, which its table is to take next.
      pub record IsTaking (job : ℕ) (message : Due) (sight : Sight Due (Graphs GraphAlloc))
          (worker : Worker P GraphAlloc Alloc S) : Type 0 where
        pub before : List Due
        pub posts : List (ℕ × Due)
        pub stands : Stands sight worker.table (before ++ message ∷ []) posts
        pub made : sight.made ≡ false
        pub whole : failure worker.table ≡ None
        pub all : (numbered : NumberedMessage) → Member (due_of numbered) before → TookMessage worker.table.found numbered
        pub sent : mails_of posts ≡ answers_of worker.table
        pub fits : FitsIn sight.seen.world b.number message
        pub has : HasJob b.number job sight.seen.order

      -- What a worker has found if its last take answers this: a message, which its table is to take next; none; the
      -- close, which it knows; or an abort.
      abbrev pub HasFound : Taken Due → Sight Due (Graphs GraphAlloc) → Worker P GraphAlloc Alloc S → Type 0
      HasFound (answer.Message job message) s w = IsTaking job message s w
      HasFound answer.Empty s w = IsReady s w
      HasFound answer.Closed s w = IsReady s w × (s.knows ≡ true) × IsClosed s.seen.order
      HasFound answer.Aborted s w = IsReady s w × IsSome s.seen.aborted

      -- The worker has a job, and has posted all that its table answered.
      pub record IsDealing (job : ℕ) (sight : Sight Due (Graphs GraphAlloc)) (worker : Worker P GraphAlloc Alloc S) : Type 0 where
        pub took : List Due
        pub posts : List (ℕ × Due)
        pub sent : HasSent sight worker.table took posts
        pub has : HasJob b.number job sight.seen.order

      -- The worker has a job, and all that its table answered is posted except this message, which is due
      -- there.
      pub record IsSending (job to : ℕ) (message : Due) (sight : Sight Due (Graphs GraphAlloc))
          (worker : Worker P GraphAlloc Alloc S) : Type 0 where
        pub took : List Due
        pub posts : List (ℕ × Due)
        pub goes : Goes sight worker.table took posts
        pub but : mails_of posts ++ mail to message ∷ [] ≡ answers_of worker.table
        pub near : to < sight.seen.boxes
        pub fits : FitsIn sight.seen.world to message
        pub has : HasJob b.number job sight.seen.order

      -- The worker has a job, and stops for this reason.
      pub record IsStopped (job : ℕ) (why : StopReason) (sight : Sight Due (Graphs GraphAlloc))
          (worker : Worker P GraphAlloc Alloc S) : Type 0 where
        pub took : List Due
        pub posts : List (ℕ × Due)
        pub stands : Stands sight worker.table took posts
        pub made : sight.made ≡ false
        pub has : HasJob b.number job sight.seen.order
        pub reason : StoppedFor why sight
        pub fault : IsAtFault (end_at why) worker.table

      -- The worker has a job, and has posted all that its table answered; or it stops, for the reason returned.
      abbrev pub DealsOrStops : ℕ → Result (Unit {0}) StopReason → Sight Due (Graphs GraphAlloc) → Worker P GraphAlloc Alloc S → Type 0
      DealsOrStops job answer sight worker =
          MatchResult answer (λ _. IsDealing job sight worker) (λ why. IsStopped job why sight worker)

      -- The worker has ended, for its table's fault if that has failed.
      abbrev pub HasStopped : WorkerEnd → Sight Due (Graphs GraphAlloc) → Worker P GraphAlloc Alloc S → Type 0
      HasStopped e s w =
          ((took : List Due) × (sent : List (ℕ × Due)) × EndsSo (end_of e) s w.table took sent)
          × IsAtFault (end_of e) w.table

      -- The worker has posted the next message that its table owed, if there was one, and has taken none.
      pub record HasAnswered (job : ℕ) (more : Bool) (sight later : Sight Due (Graphs GraphAlloc))
          (worker : Worker P GraphAlloc Alloc S) : Type 0 where
        pub dealing : IsDealing job later worker
        pub none : OnFalse more (IsQuiet members worker.table)
        pub takes : took_by later ≡ took_by sight

      -- The message of the job is completed, with all posted that it implies, and the worker has found what the take
      -- behind it answers; or it has ended.
      abbrev pub HasDealt : ℕ → Result (Taken Due) WorkerEnd → Sight Due (Graphs GraphAlloc) → Sight Due (Graphs GraphAlloc)
          → Worker P GraphAlloc Alloc S → Type 0
      HasDealt job answer s t w =
          MatchResult answer (λ next. HasFound next t w × PostsThenTurns job next s t) (λ e. HasStopped e t w)

      -- From what its last take answered, the worker has come to what the next one answers, if it may; or it has ended.
      abbrev pub HasTurned : Taken Due → Result (Taken Due) WorkerEnd → Sight Due (Graphs GraphAlloc)
          → Sight Due (Graphs GraphAlloc) → Worker P GraphAlloc Alloc S → Type 0
      HasTurned taken answer s t w =
          MatchResult answer (λ next. HasFound next t w × MayGoOn taken next s t) (λ e. HasStopped e t w)
