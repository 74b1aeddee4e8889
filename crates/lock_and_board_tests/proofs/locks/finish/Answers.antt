use Rattle.std.proofs.Common.{subst, sym, ap, arith, length, All}
use Rattle.ticket_lock.specs.Promises.{IsIdle}
use Rattle.ticket_lock.proofs.IntoIter.{holds_along, gives_all}
use Rattle.lock_and_board_tests.proofs.locks.finish.Goals as goal

pub close-requires-clause-idle : goal.close-requires-clause-idle
close-requires-clause-idle g c =
    holds_along (IsIdle c.args.lock.id) c.into_iter.result
    (subst (λ l. All (IsIdle c.args.lock.id) l) (sym c.into_iter.ensures.rest) c.requires.0)

pub close-requires-clause-all : goal.close-requires-clause-all
close-requires-clause-all g c =
    λ xs d.
    omega (arith, ap length (gives_all c.into_iter.result xs d), ap length c.into_iter.ensures.rest, c.args.lanes.ok.0, c.requires.1)
