-- How the lanes of a board end.
use Rattle.std.specs.Prelude.{◌≡◌, ◌≢◌, ◌⊎◌, ◌≤◌, ℕ, Bool, true, List, [], Some, length, slice_get}
use Rattle.atomic_table.specs.Seated.{TableId}
use Rattle.post_ledger.specs.declared.event.Event.{Event}
use Rattle.post_ledger.specs.Orders.{own}
use Rattle.language.specs.Step.{Program}
use Rattle.path_sets.specs.Triples.{Triple}
use Rattle.flow_graph.specs.declared.graph.Graphs.{Graphs}
use Rattle.flow_graph.specs.Drawn.{graphs_of}
use Rattle.flow_graph.specs.Graphs.{AreDrawnFrom}
use Rattle.summaries.specs.declared.due.Due.{Due}
use Rattle.path_sets.specs.declared.edge_limit.EdgeLimit.{EdgeLimit}
use Rattle.summaries.specs.Fitting.{FitsIn}
use Rattle.switchboard.specs.declared.calls.Abort.{Abort}
use Rattle.switchboard.specs.declared.calls.Cause.TheVariants.{NoWorker}
use Rattle.switchboard.specs.Sights.{Sight}
use Rattle.switchboard.specs.Promises.{Settles}
use Rattle.procedure_worker.specs.declared.outcome.End.{End}
use Rattle.procedure_worker.specs.declared.outcome.End.TheVariants.{Failed}
use Rattle.procedure_worker.specs.declared.outcome.Outcome.{Outcome}
use Rattle.procedure_worker.specs.Works.{Start, begun, IsPassOf, IsFresh, HasEnded}
use Rattle.jobs.specs.declared.jobs.JobResult.{JobResult}
use Rattle.jobs.specs.Jobs.{IsResultOf, IsDeclined}
use Rattle.gather.specs.declared.finding.Finding.{Finding}
use Rattle.gather.specs.Findings.{finding_end, IsLeftOf, AreLeftOf}

-- The lane had no thread, and ended so: its pass made no event, and aborted the board for that cause, unless another
-- pass aborted it before.
pub record HadNoThread {GraphAlloc : Type 0} (begun : Start GraphAlloc) (sight : Sight Due (Graphs GraphAlloc))
    (ending : End) : Type 0 where
  pub pass : IsPassOf begun sight
  pub made : sight.made ≡ true
  pub abort : Abort
  pub kept : sight.seen.aborted ≡ Some abort
  pub first : (abort ≡ record { by = begun.number; cause = NoWorker }) ⊎ (abort.by ≢ begun.number)
  pub none : own begun.number sight.seen.order ≡ []
  pub named : ending ≡ Failed NoWorker

module _ {GraphAlloc Alloc S : Type 0} (members : S → List Triple) where
  -- the lane's worker has ended, or it had no thread
  abbrev pub LaneEnds : Start GraphAlloc → Sight Due (Graphs GraphAlloc) → Outcome GraphAlloc Alloc S → Type 0
  LaneEnds b s o = HasEnded b members s o ⊎ HadNoThread b s o.end

  -- each lane for which there is a pass and an outcome has ended
  abbrev pub AllEnd : Graphs GraphAlloc → EdgeLimit → TableId → List (Sight Due (Graphs GraphAlloc)) → List (Outcome GraphAlloc Alloc S)
      → Type 0
  AllEnd graphs limit board passes outcomes =
      (procedure : ℕ) (sight : Sight Due (Graphs GraphAlloc)) (outcome : Outcome GraphAlloc Alloc S)
      → slice_get passes procedure ≡ Some sight
      → slice_get outcomes procedure ≡ Some outcome → LaneEnds (begun graphs procedure limit board) sight outcome

  -- The lanes of all procedures have ended, by number, each with at most `limit` path edges, on one board.
  pub record HaveEnded (graphs : Graphs GraphAlloc) (limit : EdgeLimit) (board : TableId) (passes : List (Sight Due (Graphs GraphAlloc)))
      (outcomes : List (Outcome GraphAlloc Alloc S)) : Type 0 where
    pub each_pass : length passes ≡ length (graphs_of graphs)
    pub each_outcome : length outcomes ≡ length (graphs_of graphs)
    pub ends : AllEnd graphs limit board passes outcomes

  -- The lanes of all procedures have ended, by number, and the findings are what they left.
  pub record HaveLeft (graphs : Graphs GraphAlloc) (limit : EdgeLimit) (board : TableId) (passes : List (Sight Due (Graphs GraphAlloc)))
      (findings : List (Finding Alloc)) : Type 0 where
    pub outcomes : List (Outcome GraphAlloc Alloc S)
    pub ended : HaveEnded graphs limit board passes outcomes
    pub left : AreLeftOf outcomes findings

  -- The findings are those of the lanes of one board, which has left these histories.
  pub record AreOfBoard (graphs : Graphs GraphAlloc) (histories : List (List (Event Due))) (closed : Bool)
      (findings : List (Finding Alloc)) : Type 0 where
    pub limit : EdgeLimit
    pub board : TableId
    pub passes : List (Sight Due (Graphs GraphAlloc))
    pub lanes : HaveLeft graphs limit board passes findings
    pub settled : Settles FitsIn (length (graphs_of graphs)) passes histories closed

module _ {GraphAlloc Alloc S P : Type 0} (members : S → List Triple) (sight : P → Sight Due (Graphs GraphAlloc)) where
  -- a lane that ran returned its pass and what is left of the outcome of its worker, which has ended
  abbrev pub HasWorked : Start GraphAlloc → P × Finding Alloc → Type 0
  HasWorked b r = (outcome : Outcome GraphAlloc Alloc S) × HasEnded b members (sight r.0) outcome × IsLeftOf outcome r.1

  -- a lane that was declined returned its pass, and that it had no thread
  abbrev pub WasDeclined : Start GraphAlloc → P × Finding Alloc → Type 0
  WasDeclined b r = HadNoThread b (sight r.0) (finding_end r.1)

  -- What the lanes of all procedures returned, by number. A lane that ran has worked. For a lane that was declined
  -- there is evidence that its start was refused, or that of a lane before it; after such a lane all were declined.
  pub record HaveReturned (graphs : Graphs GraphAlloc) (limit : EdgeLimit) (board : TableId)
      (results : List (JobResult (P × Finding Alloc))) : Type 0 where
    pub all : length results ≡ length (graphs_of graphs)
    pub each : (procedure : ℕ) (result : JobResult (P × Finding Alloc)) → slice_get results procedure ≡ Some result
        → IsResultOf (HasWorked (begun graphs procedure limit board)) (WasDeclined (begun graphs procedure limit board)) procedure result
    pub behind : (index later : ℕ) (result later_result : JobResult (P × Finding Alloc)) → index ≤ later
        → slice_get results index ≡ Some result → slice_get results later ≡ Some later_result
        → IsDeclined result → IsDeclined later_result

-- The graphs are some program's, and the passes are those of all its procedures, by number, as given by a board that
-- the starter's message opened.
pub record IsCrew {GraphAlloc : Type 0} (graphs : Graphs GraphAlloc) (limit : EdgeLimit) (board : TableId)
    (passes : List (Sight Due (Graphs GraphAlloc))) : Type 0 where
  pub drawn : (program : Program) × AreDrawnFrom program (graphs_of graphs)
  pub all : length passes ≡ length (graphs_of graphs)
  pub fresh : (procedure : ℕ) (sight : Sight Due (Graphs GraphAlloc)) → slice_get passes procedure ≡ Some sight
      → IsFresh (begun graphs procedure limit board) sight
