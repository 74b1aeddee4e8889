-- What the lane had seen last is told.
use Rattle.std.proofs.Common.{sym, subst}
use Rattle.ticket_lock.specs.History.{EndsIn}
use Rattle.switchboard.proofs.one_lock.board.OneLockBoard.tell.Goals as goal

pub invariant_of-result : goal.invariant_of-result
invariant_of-result g c =
    let p = c.pass.invariant in
    record { last = p.last; ends = subst (λ l. EndsIn l p.last) (sym c.tell.ensures.note.1) p.ends; sound = p.sound }
