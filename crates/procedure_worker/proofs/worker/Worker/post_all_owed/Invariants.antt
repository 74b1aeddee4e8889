-- All that the table answered is posted, before each answer, and no message is taken.
use Rattle.std.proofs.Common.{◌≡◌}
use Rattle.procedure_worker.specs.Works.{start_of, IsDealing, took_by}
use Rattle.procedure_worker.proofs.worker.Worker.post_all_owed.Given as goal

abbrev pub invariant-loop : goal.invariant-loop
invariant-loop g l =
    (IsDealing (start_of g.B.Board.identity l.desk) g.S.PathSet.members l.job (g.B.Board.sight l.self.pass) l.self
    × (took_by (g.B.Board.sight l.self.pass) ≡ took_by (g.B.Board.sight l.fn.self.pass)))
    × (goal.iterator-loop g).can_next l.iterator' × (goal.iterator-loop g).is_finite l.iterator'
