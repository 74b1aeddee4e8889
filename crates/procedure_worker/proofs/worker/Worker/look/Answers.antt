-- What the take answers is what the worker has found.
use Rattle.std.proofs.Common.{refl}
use Rattle.procedure_worker.specs.Works.{start_of}
use Rattle.procedure_worker.proofs.Works.{took_found}
use Rattle.procedure_worker.proofs.worker.Worker.look.Goals as goal

pub returns-in-Ok-clause-turned : goal.returns-in-Ok-clause-turned
returns-in-Ok-clause-turned g c = (
  took_found (start_of g.B.Board.identity c.args.desk.now) g.S.PathSet.members c.in-Ok.taken (g.B.Board.sight c.args.self.now.pass)
      (g.B.Board.sight c.take.new.pass) c.args.self.now _ c.requires c.in-Ok.ensures refl,
  c.in-Ok.ensures,
)
