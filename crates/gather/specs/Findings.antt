-- What lanes leave.
use Rattle.std.specs.Prelude.{◌≡◌, ℕ, Option, Some, List, length, map, slice_get}
use Rattle.summaries.specs.declared.table.Table.{Table}
use Rattle.summaries.specs.Effects.{Effect}
use Rattle.summaries.specs.Together.{IsReadOff}
use Rattle.switchboard.specs.declared.calls.Cause.{Cause}
use Rattle.procedure_worker.specs.declared.outcome.End.{End}
use Rattle.procedure_worker.specs.declared.outcome.End.TheVariants as end
use Rattle.procedure_worker.specs.declared.outcome.Outcome.{Outcome}
use Rattle.procedure_worker.specs.declared.memory.OutOfMemory.{OutOfMemory}
use Rattle.gather.specs.declared.finding.Finding.{Finding}
use Rattle.gather.specs.declared.finding.Finding.TheVariants.{Closed, Unread, Aborted, Failed}

module _ {Alloc : Type 0} where
  -- what a lane leaves whose table was read off
  abbrev pub closed_with : Effect → Finding Alloc
  closed_with s = Closed s

  -- how a lane ended
  abbrev pub finding_end : Finding Alloc → End
  finding_end (Closed s) = end.Closed
  finding_end (Unread evidence) = end.Closed
  finding_end Aborted = end.Aborted
  finding_end (Failed c out_of_memory) = end.Failed c

  -- how the lanes ended
  abbrev pub ends_in : List (Finding Alloc) → List End
  ends_in findings = map finding_end findings

-- The finding is what is left of a worker's outcome: how the worker ended, the evidence with which it failed, and what
-- was read off its table.
pub record IsLeftOf {GraphAlloc Alloc S : Type 0} (outcome : Outcome GraphAlloc Alloc S) (finding : Finding Alloc) : Type 0 where
  pub ended : outcome.end ≡ finding_end finding
  pub out_of_memory : (cause_now : Cause) (evidence : Option OutOfMemory) → finding ≡ Failed cause_now evidence
      → outcome.out_of_memory ≡ evidence
  pub found : (t : Table GraphAlloc Alloc S) (effect : Effect) → outcome.table ≡ Some t → finding ≡ Closed effect → IsReadOff t.found effect

-- The findings are what is left of the outcomes, one of each, in their order.
pub record AreLeftOf {GraphAlloc Alloc S : Type 0} (outcomes : List (Outcome GraphAlloc Alloc S))
    (findings : List (Finding Alloc)) : Type 0 where
  pub all : length findings ≡ length outcomes
  pub each : (procedure : ℕ) (outcome : Outcome GraphAlloc Alloc S) (finding : Finding Alloc) → slice_get outcomes procedure ≡ Some outcome
      → slice_get findings procedure ≡ Some finding
      → IsLeftOf outcome finding
