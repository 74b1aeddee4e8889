use Rattle.std.proofs.Common.{◌≡◌, map, take}
use Rattle.exploration.proofs.ThreadLemmas.{number_in}
use Rattle.exploration.proofs.start.thread_procedures.Given as goal

abbrev pub invariant-loop-thread : goal.invariant-loop-thread
invariant-loop-thread g l = l.procedures.items ≡ map (number_in l.program.procs.items) (take l.thread-index l.thread-items)
