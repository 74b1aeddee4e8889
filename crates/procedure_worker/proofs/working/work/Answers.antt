-- A new worker is ready, and so it is after each step that does not end it.
use Rattle.std.proofs.Common.{refl, sym, subst}
use Rattle.procedure_worker.specs.Stops.{end_of}
use Rattle.procedure_worker.specs.Works.{begun_in, EndsSo, IsFounded}
use Rattle.procedure_worker.proofs.Works.{fresh_ready, founded}
use Rattle.procedure_worker.proofs.working.work.Goals as goal

pub loop-init : goal.loop-init
loop-init g c = (
  fresh_ready (begun_in g.B.Board.identity c.args.context.now c.args.procedure) g.S.PathSet.members
      (g.B.Board.sight c.args.pass) _ c.requires.drawn c.requires.fresh c.new.ensures.new c.new.ensures.quiet
      c.new.ensures.graph c.new.ensures.procedure c.new.ensures.limit,
  tt,
  tt,
)

pub returns-in-Err : goal.returns-in-Err
returns-in-Err g c =
    let b = begun_in g.B.Board.identity c.args.context.now c.args.procedure in
    let e = c.in-Err.finish in
    let w = c.step.new.self in
    let stopped = c.in-Err.ensures in (
      w.table,
      refl,
      (
        stopped.0.0,
        stopped.0.1,
        subst (λ z. EndsSo b g.S.PathSet.members z (g.B.Board.sight w.pass) w.table stopped.0.0 stopped.0.1)
            (sym c.end_of.ensures) stopped.0.2,
      ),
      subst (λ z. IsFounded z c.memory_of.result w.table) (sym c.end_of.ensures)
          (subst (λ z. IsFounded (end_of e) z w.table) (sym c.memory_of.ensures) (founded e w.table stopped.1)),
    )
