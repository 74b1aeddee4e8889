-- What is gathered of findings.
use Rattle.std.specs.Prelude.{◌≡◌, ◌≤◌, ◌⊎◌, ◌↔◌, ℕ, Bool, true, List}
use Rattle.std.specs.Prelude.{Option, Some, None, map, Result, IfOk, IfErr, slice_get}
use Rattle.post_ledger.specs.declared.event.Event.{Event}
use Rattle.language.specs.Step.{Program}
use Rattle.language.specs.Lists.{Member}
use Rattle.path_sets.specs.Triples.{Triple}
use Rattle.language.specs.Sequential.{SomeBad}
use Rattle.flow_graph.specs.declared.graph.Graphs.{Graphs}
use Rattle.flow_graph.specs.Drawn.{bad_of, graphs_of}
use Rattle.flow_graph.specs.Graphs.{AreDrawnFrom}
use Rattle.summaries.specs.declared.due.Due.{Due}
use Rattle.path_sets.specs.EdgeLimits.{most_of}
use Rattle.summaries.specs.Effects.{Effect, Effects}
use Rattle.summaries.specs.Tabulated.{AreSummaries, SomePairBad, HasMoreEdges}
use Rattle.gather.specs.declared.finding.Finding.{Finding}
use Rattle.gather.specs.Findings.{closed_with, ends_in}
use Rattle.gather.specs.Ends.{AreOfBoard}
use Rattle.gather.specs.declared.gathering.Failure.{Failure}
use Rattle.summaries.specs.declared.no_verdict.NoVerdict.{NoVerdict}
use Rattle.summaries.specs.declared.no_verdict.NoVerdict.TheVariants as verdict
use Rattle.switchboard.specs.declared.calls.Cause.{Cause}
use Rattle.switchboard.specs.declared.calls.Cause.TheVariants as cause
use Rattle.procedure_worker.specs.declared.outcome.End.{End}
use Rattle.procedure_worker.specs.declared.outcome.End.TheVariants.{Closed, Failed}

-- the rank of a cause: `NoVerdict` lists them in this order
abbrev pub rank_of : Cause → ℕ
rank_of cause.Memory = 0
rank_of cause.EdgeLimit = 1
rank_of cause.NoWorker = 2
rank_of cause.Spent = 3

-- why there is no verdict, if the worker of this procedure has failed for this cause
abbrev pub verdict_for : ℕ → Cause → NoVerdict
verdict_for procedure cause.Memory = verdict.Memory
verdict_for procedure cause.EdgeLimit = verdict.EdgeLimit procedure
verdict_for procedure cause.NoWorker = verdict.NoWorker
verdict_for procedure cause.Spent = verdict.Spent

-- why there is no verdict, if a worker has failed
abbrev pub verdict_of : Failure → NoVerdict
verdict_of failure = verdict_for failure.procedure failure.cause

-- The worker of the procedure with this number has failed for this cause, and none has for one of a lesser rank.
pub record IsLeastFailure (ends : List End) (failure : Failure) : Type 0 where
  pub named : slice_get ends failure.procedure ≡ Some (Failed failure.cause)
  pub least : (cause_now : Cause) → Member (Failed cause_now) ends → rank_of failure.cause ≤ rank_of cause_now

-- no end names a cause
abbrev pub NoneFailed : List End → Type 0
NoneFailed ends = (cause_now : Cause) → Member (Failed cause_now) ends → ⊥

-- every worker has ended at the close
abbrev pub AllClosed : List End → Type 0
AllClosed ends = (ending : End) → Member ending ends → ending ≡ Closed

-- these were read off the tables of all lanes, in their order, if every worker has ended at the close
abbrev pub AreRead : {Alloc : Type 0} → List (Finding Alloc) → List Effect → Type 0
AreRead findings ss = AllClosed (ends_in findings) → findings ≡ map closed_with ss

-- the failure is the least, if a worker has failed
abbrev pub IsLeastOf : List End → Option Failure → Type 0
IsLeastOf ends None = NoneFailed ends
IsLeastOf ends (Some failure) = IsLeastFailure ends failure

-- The failure is one of the two, and its rank is at most those of both; of two with one rank it is the first.
pub record IsLesser (one : Option Failure) (other failure : Failure) : Type 0 where
  pub either : (one ≡ Some failure) ⊎ (failure ≡ other)
  pub below : rank_of failure.cause ≤ rank_of other.cause
  pub least : (f : Failure) → one ≡ Some f → rank_of failure.cause ≤ rank_of f.cause
  pub first : (f : Failure) → one ≡ Some f → rank_of f.cause ≤ rank_of other.cause → failure ≡ f

-- The summaries are those of the programs that the graphs are drawn from, if no procedure has more path edges than
-- the limit, the board is closed, and every worker has ended at the close.
pub record IsGathered {GraphAlloc : Type 0} (graphs : Graphs GraphAlloc) (most : ℕ) (closed : Bool) (ends : List End)
    (effects : Effects) : Type 0 where
  pub shut : closed ≡ true
  pub ended : AllClosed ends
  pub summaries : (program : Program) → AreDrawnFrom program (graphs_of graphs) → AreSummaries program effects
  pub bad : (program : Program) → AreDrawnFrom program (graphs_of graphs) → SomePairBad effects ↔ SomeBad program (bad_of graphs)
  pub few : (program : Program) → AreDrawnFrom program (graphs_of graphs) → (procedure : ℕ) → HasMoreEdges program procedure most → ⊥

-- why nothing is gathered: the least failure of a worker, or lack of memory if every worker ended at the close
abbrev pub IsCause : List End → NoVerdict → Type 0
IsCause ends why =
    ((failure : Failure) × IsLeastFailure ends failure × (why ≡ verdict_of failure))
    ⊎ ((why ≡ verdict.Memory) × AllClosed ends)

module _ {GraphAlloc Alloc S : Type 0} (members : S → List Triple) where
  -- The findings are gathered, whichever board they are of.
  abbrev pub Gathers : Graphs GraphAlloc → List (Finding Alloc) → Result Effects NoVerdict → Type 0
  Gathers graphs findings r =
      (histories : List (List (Event Due))) (closed : Bool) (of : AreOfBoard members graphs histories closed findings)
      → IfOk r (IsGathered graphs (most_of of.limit) closed (ends_in findings)) × IfErr r (IsCause (ends_in findings))
