-- A sequential program carries what its graphs are drawn by.
use Rattle.std.proofs.Common.{length, sym, ap, subst, arith}
use Rattle.std.specs.Prelude.{IfOk}
use Rattle.language.specs.Sequential.{sequential_of}
use Rattle.trees.specs.Trees.{tree_of}
use Rattle.resolved.specs.Narrow.{AllNarrow}
use Rattle.resolved.specs.Resolves.{Resolves}
use Rattle.flow_graph.specs.Drawn.{graphs_of}
use Rattle.flow_graph.specs.Graphs.{AreDrawnFrom}
use Rattle.flow_graph.proofs.drawing.graphs.Goals as goal

pub draw-requires : goal.draw-requires
draw-requires g c = record {
  resolves = subst (λ z. Resolves (tree_of z)) (sym c.program.ensures) c.args.sequential.now.resolves;
  narrow = subst (λ z. AllNarrow (tree_of z)) (sym c.program.ensures) c.args.sequential.now.narrow;
  few = omega (arith, ap (λ z. length z.procs.items) c.program.ensures, c.args.sequential.now.few);
}

pub returns-clause-graphs : goal.returns-clause-graphs
returns-clause-graphs g c =
    subst (λ z. IfOk c.draw.result (λ gs. AreDrawnFrom (sequential_of (tree_of z)) (graphs_of gs))) c.program.ensures c.draw.ensures.graphs
