use Rattle.std.proofs.Common.{sym, ap, subst, arith, length, All}
use Rattle.lock_and_board_tests.specs.declared.locks.Marks.{Marks}
use Rattle.ticket_lock.specs.Promises.{IsIdle}
use Rattle.ticket_lock.proofs.LoneOpening.{length-fresh}
use Rattle.ticket_lock.proofs.Callers.{fresh_idle}
use Rattle.lock_and_board_tests.proofs.locks.open.Goals as goal

pub returns : goal.returns
returns g c =
    let made = c.in-Ok-with_budget.ensures.ok in
    let id = c.in-Ok-with_budget.made.0.id in
    let first : Marks _ = record { marks = c.new.result } in (
      subst (λ l. All (IsIdle id) l) (sym made.2) (fresh_idle id c.args.budget first 0 c.args.lanes),
      omega (arith, c.in-Ok-with_budget.made.1.ok.0, ap length made.2, length-fresh id c.args.budget 0 c.args.lanes first),
      made.1,
    )
