-- The program that is tabulated is the rewriting.
use Rattle.language.specs.Sequential.{sequential_of}
use Rattle.resolved.specs.Programs.{sequential_tree}
use Rattle.gather.proofs.one_thread.tabulate_rounds.Given as goal

abbrev pub ghost-by_graphs : goal.ghost-by_graphs
ghost-by_graphs g a = sequential_of (sequential_tree a.sequential.now)
