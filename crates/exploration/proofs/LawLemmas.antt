-- A program is unsafe if and only if some turn of its threads by numbers fails.
use Rattle.std.proofs.Common.{◌↔◌, ℕ, []}
use Rattle.language.specs.Tree.{Tree}
use Rattle.language.specs.Resolve.{meaning_of}
use Rattle.language.specs.Rounds.{Unsafe}
use Rattle.language.specs.Sequential.{sequential_of}
use Rattle.flow_graph.specs.Asserted.{fails_at}
use Rattle.flow_graph.specs.Drawn.{graphs_of}
use Rattle.resolved.proofs.Sequences.{narrow_places}
use Rattle.source_graphs.specs.Source.{AreOfSource}
use Rattle.source_graphs.specs.declared.source.SourceGraphs.{SourceGraphs}
use Rattle.turns.specs.Between.{FailsBelow}
use Rattle.turns.specs.Numbered.{TellFailures}
use Rattle.turns.proofs.MarkLemmas.{order_unsafe}
use Rattle.turns.proofs.NumberedLemmas.{numbers_fail}
use Rattle.turns.proofs.UnsafeLemmas.{unsafe_fails}
use Rattle.exploration.specs.Searched.{threads_by}

module _ {G : Type 0} (tree : Tree) (source : SourceGraphs G) (are : AreOfSource tree source) where
  tells : TellFailures (sequential_of tree) (fails_at source.asserts)
  tells q v r rest valuation = are.asserts q r v [] rest valuation

  -- the turns by numbers fail if and only if the program does
  pub source_fails : (k : ℕ) → Unsafe (meaning_of tree) k ↔ FailsBelow (threads_by source (sequential_of tree).threads) k
  source_fails k =
      let (fit, order, graphs) = are.graphs in
      let marked = order_unsafe (meaning_of tree) k in
      let turns = unsafe_fails (sequential_of tree) k in
      let numbers = numbers_fail (sequential_of tree) (graphs_of source.graphs) fit order graphs (narrow_places tree are.narrow)
      (fails_at source.asserts) tells k in
      (λ bad. numbers.0 (turns.0 (marked.1 bad)), λ bad. marked.0 (turns.1 (numbers.1 bad)))
