use Rattle.language.specs.Sequential.{statements}
use Rattle.trees.specs.Trees.{block_of}
use Rattle.analysis_tests.proofs.texts.show.+show_stmts.Given as goal

abbrev pub decreases-show_stmts : goal.decreases-show_stmts
decreases-show_stmts g l = statements (block_of l.stmts.now)
