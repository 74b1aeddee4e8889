-- The word says that the board is closed or aborted, or the mailbox has the oldest message.
use Rattle.std.proofs.Common.{◌∙◌}
use Rattle.switchboard.proofs.BoxTakes.{looked_on, says_closed, says_aborted, take_leaves, takes_on, took_one, took_none}
use Rattle.switchboard.proofs.lock_per_box.board.LockPerBoxBoard.take.Goals as goal

pub invariant_of-pass : goal.invariant_of-pass
invariant_of-pass g c =
    looked_on g.M.Mail.fits _ _ _ _ _ _ c.pass.inside.seat.me c.pass.invariant c.if-pass-eq0.false _ c.look-found.new.seat.me
    c.look-found.ensures.1 _ c.look-found.ensures.0.0

pub returns-then-found-eq0 : goal.returns-then-found-eq0
returns-then-found-eq0 g c =
    says_closed g.M.Mail.fits _ _ _ _ _ _ c.pass.inside.seat.me c.pass.invariant c.if-pass-eq0.false _ c.look-found.new.seat.me
    c.look-found.ensures.1 _ c.look-found.ensures.0.0 c.if-found-eq0.true
    c.args.pass.now c.pass.view_is

pub invariant_of-pass-then-found-ge-ABORTED : goal.invariant_of-pass-then-found-ge-ABORTED
invariant_of-pass-then-found-ge-ABORTED g c =
    looked_on g.M.Mail.fits _ _ _ _ _ _ c.pass.inside.seat.me c.pass.invariant c.if-pass-eq0.false _ c.look-found.new.seat.me
    c.look-found.ensures.1 _ c.look-found.ensures.0.0

pub returns-then-found-ge-ABORTED : goal.returns-then-found-ge-ABORTED
returns-then-found-ge-ABORTED g c =
    says_aborted g.M.Mail.fits _ _ _ _ _ _ c.pass.inside.seat.me c.pass.invariant c.if-pass-eq0.false _ c.look-found.new.seat.me
    c.look-found.ensures.1 _ c.look-found.ensures.0.0 c.if-found-eq0.false
    c.if-found-ge-ABORTED.true c.args.pass.now c.pass.view_is

pub leave_box-requires-clause-inside : goal.leave_box-requires-clause-inside
leave_box-requires-clause-inside g c =
    take_leaves g.M.Mail.fits _ _ _ _ _ _ c.pass.inside.seat.me c.pass.invariant c.if-pass-eq0.false _ c.look-found.new.seat.me
    c.look-found.ensures.1 c.if-found-eq0.false c.if-found-ge-ABORTED.false _
    c.enter_box.new.seat.me c.enter_box.ensures.2 _ c.from.ensures _ c.value_at.ensures.value
    c.take_out-next.result c.take_out-next.new.mailbox c.take_out-next.ensures

pub invariant_of-pass-in_default : goal.invariant_of-pass-in_default
invariant_of-pass-in_default g c =
    takes_on g.M.Mail.fits _ _ _ _ _ _ c.pass.inside.seat.me c.pass.invariant c.if-pass-eq0.false _ c.look-found.new.seat.me
    c.look-found.ensures.1 c.if-found-eq0.false c.if-found-ge-ABORTED.false _
    c.enter_box.new.seat.me c.enter_box.ensures.2 _ c.from.ensures _ c.value_at.ensures.value
    c.take_out-next.result c.take_out-next.new.mailbox c.take_out-next.ensures c.leave_box.new.seat.me c.leave_box.ensures.1
    _ (c.leave_box.ensures.0.0 ∙ (c.enter_box.ensures.0.0 ∙ c.look-found.ensures.0.0))

pub returns-in_default : goal.returns-in_default
returns-in_default g c =
    took_none g.M.Mail.fits _ _ _ _ _ _ c.pass.inside.seat.me c.pass.invariant c.if-pass-eq0.false _ c.look-found.new.seat.me
    c.look-found.ensures.1 c.if-found-eq0.false c.if-found-ge-ABORTED.false _
    c.enter_box.new.seat.me c.enter_box.ensures.2 _ c.from.ensures _ c.value_at.ensures.value
    c.take_out-next.result c.take_out-next.new.mailbox c.take_out-next.ensures c.leave_box.new.seat.me c.leave_box.ensures.1
    _ (c.leave_box.ensures.0.0 ∙ (c.enter_box.ensures.0.0 ∙ c.look-found.ensures.0.0)) c.args.pass.now c.pass.view_is
    c.in_default.is

pub invariant_of-pass-2 : goal.invariant_of-pass-2
invariant_of-pass-2 g c =
    takes_on g.M.Mail.fits _ _ _ _ _ _ c.pass.inside.seat.me c.pass.invariant c.if-pass-eq0.false _ c.look-found.new.seat.me
    c.look-found.ensures.1 c.if-found-eq0.false c.if-found-ge-ABORTED.false _
    c.enter_box.new.seat.me c.enter_box.ensures.2 _ c.from.ensures _ c.value_at.ensures.value
    c.take_out-next.result c.take_out-next.new.mailbox c.take_out-next.ensures c.leave_box.new.seat.me c.leave_box.ensures.1
    _ (c.leave_box.ensures.0.0 ∙ (c.enter_box.ensures.0.0 ∙ c.look-found.ensures.0.0))

pub returns : goal.returns
returns g c =
    took_one g.M.Mail.fits _ _ _ _ _ _ c.pass.inside.seat.me c.pass.invariant c.if-pass-eq0.false _ c.look-found.new.seat.me
    c.look-found.ensures.1 c.if-found-eq0.false c.if-found-ge-ABORTED.false _
    c.enter_box.new.seat.me c.enter_box.ensures.2 _ c.from.ensures _ c.value_at.ensures.value
    c.take_out-next.result c.take_out-next.new.mailbox c.take_out-next.ensures c.leave_box.new.seat.me c.leave_box.ensures.1
    _ (c.leave_box.ensures.0.0 ∙ (c.enter_box.ensures.0.0 ∙ c.look-found.ensures.0.0)) c.args.pass.now c.pass.view_is
    c.in-Some.job c.in-Some.message c.in-Some.is
