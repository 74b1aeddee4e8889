-- Why a worker stops, and what refused it.
use Rattle.std.specs.Prelude.{◌≡◌, ℕ, List, IsSome, Option, Some, None, Result, Ok, Err}
use Rattle.path_sets.specs.Triples.{Triple}
use Rattle.summaries.specs.declared.due.Due.{Due}
use Rattle.summaries.specs.declared.table.Table.{Table}
use Rattle.summaries.specs.declared.table_fault.TableFault.{TableFault}
use Rattle.summaries.specs.declared.table_fault.TableFault.TheVariants as fault
use Rattle.summaries.specs.Tables.{TableTakes}
use Rattle.switchboard.specs.declared.calls.Cause.{Cause}
use Rattle.switchboard.specs.declared.calls.Cause.TheVariants as cause
use Rattle.switchboard.specs.Sights.{Sight}
use Rattle.switchboard.specs.Promises.{WasSpent, Looked}
use Rattle.procedure_worker.specs.declared.outcome.End.{End}
use Rattle.procedure_worker.specs.declared.outcome.End.TheVariants as end
use Rattle.procedure_worker.specs.declared.memory.OutOfMemory.{OutOfMemory}
use Rattle.procedure_worker.specs.declared.stop.Reason.{Reason}
use Rattle.procedure_worker.specs.declared.stop.Reason.TheVariants as reason

-- why a worker stops: for a reason of its own, or, without one, since another pass aborted the board
abbrev pub StopReason : Type 0
StopReason = Option Reason

-- how a worker ended: at the close, or since it stopped
abbrev pub WorkerEnd : Type 0
WorkerEnd = Result (Unit {0}) StopReason

-- the cause for which a board is aborted, by the worker's reason
abbrev pub cause_of : Reason → Cause
cause_of reason.Spent = cause.Spent
cause_of reason.EdgeLimit = cause.EdgeLimit
cause_of (reason.OutOfMemory witness) = cause.Memory

-- how a worker ended, as its outcome says it
abbrev pub end_of : WorkerEnd → End
end_of (Ok _) = end.Closed
end_of (Err None) = end.Aborted
end_of (Err (Some why)) = end.Failed (cause_of why)

-- evidence that memory was refused, if the worker failed for that
abbrev pub memory_of : WorkerEnd → Option OutOfMemory
memory_of (Ok _) = None
memory_of (Err None) = None
memory_of (Err (Some reason.Spent)) = None
memory_of (Err (Some reason.EdgeLimit)) = None
memory_of (Err (Some (reason.OutOfMemory witness))) = Some witness

-- the end that a worker comes to that stops for this
abbrev pub end_at : StopReason → End
end_at None = end.Aborted
end_at (Some why) = end.Failed (cause_of why)

module _ {M W : Type 0} (fits : W → ℕ → M → Type 0) where
  -- a post was refused for this: no call was left; memory was refused, on a board that was not aborted; or the board
  -- was aborted
  abbrev pub RefusedFor : StopReason → Sight M W → Sight M W → Type 0
  RefusedFor None s t = Looked fits s t × IsSome t.seen.aborted
  RefusedFor (Some reason.Spent) s t = WasSpent s t
  RefusedFor (Some reason.EdgeLimit) s t = ⊥
  RefusedFor (Some (reason.OutOfMemory witness)) s t = Looked fits s t × (t.seen.aborted ≡ None)

-- P holds for the fault of a table that is this reason
abbrev pub FailsFor : Reason → (TableFault → Type 0) → Type 0
FailsFor reason.Spent P = ⊥
FailsFor reason.EdgeLimit P = P fault.EdgeLimit
FailsFor (reason.OutOfMemory witness) P = P fault.Memory

module _ {GraphAlloc Alloc S : Type 0} (members : S → List Triple) where
  -- the table takes the message, or has failed for this reason
  abbrev pub TakesOrFails : {T : Type 0} → Due → Result T Reason → Table GraphAlloc Alloc S → Table GraphAlloc Alloc S → Type 0
  TakesOrFails d (Ok x) old new = TableTakes members d (Ok x) old new
  TakesOrFails {T} d (Err why) old new = FailsFor why (λ f. TableTakes members d {Returned = T} (Err f) old new)
