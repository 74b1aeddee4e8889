-- The program that is tabulated is the sequential one.
use Rattle.language.specs.Sequential.{sequential_of}
use Rattle.trees.specs.Trees.{tree_of}
use Rattle.analysis_tests.proofs.tables.whole.tabulated.Given as goal

abbrev pub ghost-by_graphs : goal.ghost-by_graphs
ghost-by_graphs g a = sequential_of (tree_of a.sequential.now.program)
