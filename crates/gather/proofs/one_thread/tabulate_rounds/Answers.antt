-- What is tabulated is of the rewriting, which keeps the failing asserts.
use Rattle.std.proofs.Common.{subst}
use Rattle.resolved.specs.Narrow.{AllNarrow}
use Rattle.resolved.specs.Programs.{sequential_tree}
use Rattle.round_rewrite.specs.Programs.{count_of}
use Rattle.checked.specs.Programs.{checked_tree}
use Rattle.path_sets.specs.EdgeLimits.{most_of}
use Rattle.gather.proofs.ReportLemmas.{alone, tabulated, not_tabulated}
use Rattle.gather.proofs.one_thread.tabulate_rounds.Goals as goal

pub returns-clause-tabulated : goal.returns-clause-tabulated
returns-clause-tabulated g c =
    let same = c.in-Ok.ensures.rewritten in
    tabulated (count_of c.args.rounds) (most_of c.args.limit) (checked_tree c.args.program.now)
    (sequential_tree c.in-Ok.sequential) same c.in-Ok.ensures.keeps (subst AllNarrow same c.in-Ok.sequential.narrow)
    c.by_graphs.result c.by_graphs.ensures.summaries c.by_graphs.ensures.bad c.by_graphs.ensures.few

pub returns-clause-none : goal.returns-clause-none
returns-clause-none g c =
    let same = c.in-Ok.ensures.rewritten in
    not_tabulated (count_of c.args.rounds) (most_of c.args.limit) (checked_tree c.args.program.now)
    (sequential_tree c.in-Ok.sequential) same (subst AllNarrow same c.in-Ok.sequential.narrow)
    c.by_graphs.result c.by_graphs.ensures.limit c.by_graphs.ensures.cause

pub returns-clause-alone : goal.returns-clause-alone
returns-clause-alone g c = alone c.by_graphs.result c.by_graphs.ensures.cause
