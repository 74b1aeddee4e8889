-- The graphs are drawn from the program.
use Rattle.std.proofs.Common.{sym, subst}
use Rattle.language.specs.Step.{Program}
use Rattle.flow_graph.specs.Graphs.{AreDrawnFrom}
use Rattle.analysis_tests.proofs.tables.whole.by_graphs.Goals as goal

pub tabulate-summaries-requires : goal.tabulate-summaries-requires
tabulate-summaries-requires g c κs within =
    let drawn =
    subst (λ (p : Program). AreDrawnFrom p c.in_ok-graphs.graphs.graphs.items) (sym c.requires.1.1) c.in_ok-graphs.ensures.graphs in
    (within.0, (within.1.0, (within.1.1, drawn)))
