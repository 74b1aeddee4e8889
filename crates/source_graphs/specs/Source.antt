-- What is known of the procedures of a tree.
use Rattle.std.specs.Prelude.{◌≡◌, ◌⊎◌}
use Rattle.language.specs.Tree.{Tree}
use Rattle.language.specs.Sequential.{sequential_of}
use Rattle.resolved.specs.Narrow.{AllNarrow}
use Rattle.flow_graph.specs.Asserted.{AreAssertsOf}
use Rattle.flow_graph.specs.Drawn.{graphs_of}
use Rattle.flow_graph.specs.Graphs.{AreDrawnFrom}
use Rattle.source_graphs.specs.declared.no_graphs.NoGraphs.{NoGraphs}
use Rattle.source_graphs.specs.declared.no_graphs.NoGraphs.TheVariants as cause
use Rattle.source_graphs.specs.declared.source.SourceGraphs.{SourceGraphs}

-- The flow graphs and the asserts are those of the tree's program, whose statements are numbered in text order, and
-- each procedure has at most 128 places.
pub record AreOfSource {Alloc : Type 0} (tree : Tree) (found : SourceGraphs Alloc) : Type 0 where
  pub narrow : AllNarrow tree
  pub graphs : AreDrawnFrom (sequential_of tree) (graphs_of found.graphs)
  pub asserts : AreAssertsOf (sequential_of tree) found.asserts

-- Why no graphs were drawn of the tree: some procedure has more than 128 places, or memory ran out, and none has.
abbrev pub IsCause : Tree → NoGraphs → Type 0
IsCause tree answer = ((answer ≡ cause.TooWide) × (AllNarrow tree → ⊥)) ⊎ ((answer ≡ cause.Memory) × AllNarrow tree)
