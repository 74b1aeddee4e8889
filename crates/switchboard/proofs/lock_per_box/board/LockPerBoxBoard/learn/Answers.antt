-- A note has nothing but what its pass had seen.
use Rattle.switchboard.proofs.BoxLearns.{learn_on, learned_is}
use Rattle.switchboard.proofs.lock_per_box.board.LockPerBoxBoard.learn.Goals as goal

pub invariant_of-pass : goal.invariant_of-pass
invariant_of-pass g c =
    learn_on g.M.Mail.fits _ _ _ _ _ _ c.pass.inside.seat.me c.pass.invariant c.told.inside.seat.me _ c.told.invariant
    c.take_in.new.seat.me c.take_in.ensures.1 _ c.take_in.ensures.0.0

pub returns : goal.returns
returns g c =
    learned_is g.M.Mail.fits _ _ _ _ _ _ c.pass.inside.seat.me c.pass.invariant c.told.inside.seat.me _ c.told.invariant
    c.take_in.new.seat.me c.take_in.ensures.1 _ c.take_in.ensures.0.0 c.args.pass.now c.pass.view_is c.args.told c.told.view_is
