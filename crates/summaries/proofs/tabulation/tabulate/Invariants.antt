-- The tables run are those of the program.
use Rattle.summaries.proofs.tabulation.tabulate.Given as goal

abbrev pub ghost-run : goal.ghost-run
ghost-run g a = g.program
