-- The lanes of a board, before their workers begin.
use Rattle.std.specs.Prelude.{◌≡◌, ◌<◌, ℕ, List, Some, length, slice_get}
use Rattle.atomic_table.specs.Seated.{TableId}
use Rattle.language.specs.Step.{Program}
use Rattle.path_sets.specs.Triples.{Triple}
use Rattle.flow_graph.specs.declared.graph.Graphs.{Graphs}
use Rattle.flow_graph.specs.Drawn.{graphs_of}
use Rattle.flow_graph.specs.Graphs.{AreDrawnFrom}
use Rattle.summaries.specs.declared.due.Due.{Due}
use Rattle.path_sets.specs.declared.edge_limit.EdgeLimit.{EdgeLimit}
use Rattle.switchboard.specs.Sights.{Sight}
use Rattle.procedure_worker.specs.Works.{Start, begun, begun_in, IsFresh}
use Rattle.gather.specs.declared.finding.Finding.{Finding}
use Rattle.gather.specs.declared.lane.Lane.{Lane}
use Rattle.gather.specs.Ends.{HasWorked, WasDeclined}

module _ {R GraphAlloc Alloc S B K P : Type 0} (identity : B → TableId) (sight : P → Sight Due (Graphs GraphAlloc)) where
  -- what the lane's worker begins with
  abbrev pub lane_start : Lane R P GraphAlloc Alloc B S K → Start GraphAlloc
  lane_start l = begun_in identity l.context.now l.number

  -- The lane's worker may begin: the graphs are some program's, and the pass is fresh.
  pub record MayWork (lane : Lane R P GraphAlloc Alloc B S K) : Type 0 where
    pub drawn : (program : Program) × AreDrawnFrom program (graphs_of lane.context.now.graphs.now)
    pub near : lane.number < length (graphs_of lane.context.now.graphs.now)
    pub fresh : IsFresh (lane_start lane) (sight lane.pass)

  -- what result back is what a lane returns that began so and ran
  abbrev pub RunsSo : (S → List Triple) → Lane R P GraphAlloc Alloc B S K → P × Finding Alloc → Type 0
  RunsSo members l = HasWorked members sight (lane_start l)

  -- what result back is what a lane returns that began so and was declined
  abbrev pub DeclinesSo : (S → List Triple) → Lane R P GraphAlloc Alloc B S K → P × Finding Alloc → Type 0
  DeclinesSo members l = WasDeclined members sight (lane_start l)

  -- each lane is that of the procedure with its number, and its worker may begin
  abbrev pub AreOwn : Graphs GraphAlloc → EdgeLimit → TableId → List (Lane R P GraphAlloc Alloc B S K) → Type 0
  AreOwn graphs limit board lanes =
      (procedure : ℕ) (lane : Lane R P GraphAlloc Alloc B S K) → slice_get lanes procedure ≡ Some lane
      → (lane_start lane ≡ begun graphs procedure limit board) × MayWork lane

  -- The lanes are those of all procedures, by number, and their workers may begin.
  pub record AreLanes (graphs : Graphs GraphAlloc) (limit : EdgeLimit) (board : TableId)
      (lanes : List (Lane R P GraphAlloc Alloc B S K)) : Type 0 where
    pub all : length lanes ≡ length (graphs_of graphs)
    pub own : AreOwn graphs limit board lanes
