-- A checked program resolves and has few procedures; without one that is too wide it is narrow.
use Rattle.std.proofs.Common.{sym, ◌∙◌, subst, arith}
use Rattle.std.proofs.lemmas.List.{length-map}
use Rattle.language.specs.Sequential.{sequential_of}
use Rattle.trees.specs.Trees.{proc_of, tree_of}
use Rattle.checked.proofs.Resolving.{checked_resolves}
use Rattle.checked.specs.Programs.{checked_tree}
use Rattle.flow_graph.specs.Asserted.{AreAssertsOf}
use Rattle.flow_graph.specs.Drawn.{graphs_of}
use Rattle.flow_graph.specs.Graphs.{AreDrawnFrom}
use Rattle.source_graphs.proofs.Widths.{few_procedures, not_wide_is_narrow}
use Rattle.source_graphs.proofs.source.source_graphs.Goals as goal

pub draw-requires-clause-resolves : goal.draw-requires-clause-resolves
draw-requires-clause-resolves g c = checked_resolves (tree_of c.program.result.now) c.program.ensures.checked

pub draw-requires-clause-few : goal.draw-requires-clause-few
draw-requires-clause-few g c =
    omega (
      arith,
      few_procedures (tree_of c.program.result.now) c.program.ensures.checked,
      length-map c.program.result.now.procs.items proc_of,
    )

pub find_asserts-requires-clause-resolves : goal.find_asserts-requires-clause-resolves
find_asserts-requires-clause-resolves g c = checked_resolves (tree_of c.program-2.result.now) c.program-2.ensures.checked

pub find_asserts-requires-clause-few : goal.find_asserts-requires-clause-few
find_asserts-requires-clause-few g c =
    omega (
      arith,
      few_procedures (tree_of c.program-2.result.now) c.program-2.ensures.checked,
      length-map c.program-2.result.now.procs.items proc_of,
    )

pub returns-clause-drawn : goal.returns-clause-drawn
returns-clause-drawn g c = record {
  narrow = not_wide_is_narrow (checked_tree c.args.checked.now) c.wide_procedure.result c.wide_procedure.ensures
      (sym c.is_some.ensures ∙ c.if-is_some.false);
  graphs = subst (λ z. AreDrawnFrom (sequential_of (tree_of z)) (graphs_of c.in_ok-graphs.graphs)) c.program.ensures.same
      c.in_ok-graphs.ensures.graphs;
  asserts = subst (λ z. AreAssertsOf (sequential_of (tree_of z)) c.in_ok-asserts.asserts) c.program-2.ensures.same
      c.in_ok-asserts.ensures;
}
