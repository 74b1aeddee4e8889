-- The worker has found what its last take answered.
use Rattle.procedure_worker.specs.Works.{begun_in, HasFound}
use Rattle.procedure_worker.proofs.working.work.Given as goal

abbrev pub invariant-loop : goal.invariant-loop
invariant-loop g l =
    HasFound (begun_in g.B.Board.identity l.context l.procedure) g.S.PathSet.members l.taken
    (g.B.Board.sight l.worker.pass) l.worker
    × (goal.iterator-loop g).can_next l.iterator' × (goal.iterator-loop g).is_finite l.iterator'
