-- With calls for both, the mailbox has the Take of the job, and then its Done, and then the Take of the oldest message,
-- if there is one.
use Rattle.std.proofs.Common.{◌∙◌, arith, ap, ◌≡◌, ◌<◌}
use Rattle.switchboard.proofs.BoxTurns.{left_turn, may_finish, turn_leaves, turn_owes, turn_on, did_turn, done_alone}
use Rattle.switchboard.proofs.lock_per_box.board.LockPerBoxBoard.turn.Given as given
use Rattle.switchboard.proofs.lock_per_box.board.LockPerBoxBoard.turn.Goals as goal
use Rattle.switchboard.proofs.lock_per_box.board.LockPerBoxBoard.turn.Goals.{Else-pass-lt2}

-- the pass is one of this board's
at_board : (g : given.Over) (c : Else-pass-lt2 g) → c.pass.inside.seat.table_id ≡ c.args.self.now.table.shared.table_id
at_board g c = ap (λ s. s.board) c.pass.view_is ∙ c.requires.board

some_word : (g : given.Over) (c : Else-pass-lt2 g) → 0 < c.args.self.now.table.shared.table_id.words
some_word g c = omega (arith, c.args.self.now.sized.0.0)

-- its mailbox is one of this board's
has_box : (g : given.Over) (c : Else-pass-lt2 g) → c.pass.inside.number < c.args.self.now.table.shared.key.boxes
has_box g c =
    omega (
      arith,
      c.pass.invariant.near,
      c.pass.invariant.sized.1,
      ap (λ t. t.slots) (at_board g c),
      c.args.self.now.sized.0.1,
    )

pub overflow_sub-pass : goal.overflow_sub-pass
overflow_sub-pass g c = omega (arith, c.if-pass-lt2.false)

pub look-found-requires : goal.look-found-requires
look-found-requires g c =
    let e = (goal.at.look-found-requires g c).Else-pass-lt2 in
    record { table = (at_board g e, some_word g e) }

pub enter_box-requires-clause-table : goal.enter_box-requires-clause-table
enter_box-requires-clause-table g c =
    let e = (goal.at.enter_box-requires-clause-table g c).Else-pass-lt2 in
    (c.look-found.ensures.0.0 ∙ at_board g e, c.args.self.now.sized.0, has_box g e)

pub value_at-mailbox-requires-clause-table : goal.value_at-mailbox-requires-clause-table
value_at-mailbox-requires-clause-table g c =
    let e = (goal.at.value_at-mailbox-requires-clause-table g c).Else-pass-lt2 in
    c.enter_box.ensures.0.0 ∙ (c.look-found.ensures.0.0 ∙ at_board g e)

pub leave_box-requires-clause-table : goal.leave_box-requires-clause-table
leave_box-requires-clause-table g c =
    let e = (goal.at.leave_box-requires-clause-table g c).Else-pass-lt2 in
    (c.enter_box.ensures.0.0 ∙ (c.look-found.ensures.0.0 ∙ at_board g e), c.args.self.now.sized.0, has_box g e)

pub count_down-requires-clause-table : goal.count_down-requires-clause-table
count_down-requires-clause-table g c =
    let e = (goal.at.count_down-requires-clause-table g c).Else-pass-lt2 in
    (c.leave_box.ensures.0.0 ∙ (c.enter_box.ensures.0.0 ∙ (c.look-found.ensures.0.0 ∙ at_board g e)), some_word g e)

pub take-requires : goal.take-requires
take-requires g c =
    let e = (goal.at.take-requires g c).Else-pass-lt2 in
    c.count_down.ensures.0.0 ∙ (c.leave_box.ensures.0.0 ∙ (c.enter_box.ensures.0.0 ∙ (c.look-found.ensures.0.0 ∙ at_board g e)))

pub returns-in-Ok : goal.returns-in-Ok
returns-in-Ok g c =
    left_turn g.M.Mail.fits c.args.job c.args.pass.now c.done.new.pass
    (omega (arith, ap (λ z. z.calls) c.pass.view_is, c.if-pass-lt2.true)) c.in-Ok.ensures

pub finish-next-requires-clause-taken : goal.finish-next-requires-clause-taken
finish-next-requires-clause-taken g c =
    (may_finish g.M.Mail.fits _ _ _ _ _ _ c.pass.inside.seat.me c.pass.invariant _ c.look-found.new.seat.me
    c.look-found.ensures.1 _ c.enter_box.new.seat.me c.enter_box.ensures.2 c.args.job c.job.inside.take c.job.view_is c.args.pass.now
    c.pass.view_is c.requires.job _ c.from.ensures _ c.value_at-mailbox.ensures.value).0

pub finish-next-requires-clause-open : goal.finish-next-requires-clause-open
finish-next-requires-clause-open g c =
    (may_finish g.M.Mail.fits _ _ _ _ _ _ c.pass.inside.seat.me c.pass.invariant _ c.look-found.new.seat.me
    c.look-found.ensures.1 _ c.enter_box.new.seat.me c.enter_box.ensures.2 c.args.job c.job.inside.take c.job.view_is c.args.pass.now
    c.pass.view_is c.requires.job _ c.from.ensures _ c.value_at-mailbox.ensures.value).1

pub leave_box-requires-clause-inside : goal.leave_box-requires-clause-inside
leave_box-requires-clause-inside g c =
    turn_leaves g.M.Mail.fits _ _ _ _ _ _ c.pass.inside.seat.me c.pass.invariant _ c.look-found.new.seat.me
    c.look-found.ensures.1 _ c.enter_box.new.seat.me c.enter_box.ensures.2 c.args.job c.job.inside.take c.job.view_is c.args.pass.now
    c.pass.view_is c.requires.job _ c.from.ensures _ c.value_at-mailbox.ensures.value c.finish-next.result c.finish-next.new.mailbox
    c.finish-next.ensures

pub count_down-requires-clause-owes : goal.count_down-requires-clause-owes
count_down-requires-clause-owes g c =
    omega (
      arith,
      turn_owes g.M.Mail.fits _ _ _ _ _ _ c.pass.inside.seat.me c.pass.invariant _ c.look-found.new.seat.me
          c.look-found.ensures.1 _ c.enter_box.new.seat.me c.enter_box.ensures.2 c.args.job c.job.inside.take c.job.view_is c.args.pass.now
          c.pass.view_is c.requires.job _ c.from.ensures _ c.value_at-mailbox.ensures.value c.finish-next.result c.finish-next.new.mailbox
          c.finish-next.ensures c.leave_box.new.seat.me c.leave_box.ensures.1 c.if-pass-lt2.false,
    )

pub invariant_of-pass : goal.invariant_of-pass
invariant_of-pass g c =
    turn_on g.M.Mail.fits _ _ _ _ _ _ c.pass.inside.seat.me c.pass.invariant _ c.look-found.new.seat.me
    c.look-found.ensures.1 _ c.enter_box.new.seat.me c.enter_box.ensures.2 c.args.job c.job.inside.take c.job.view_is c.args.pass.now
    c.pass.view_is c.requires.job _ c.from.ensures _ c.value_at-mailbox.ensures.value c.finish-next.result c.finish-next.new.mailbox
    c.finish-next.ensures c.leave_box.new.seat.me c.leave_box.ensures.1 c.if-pass-lt2.false c.count_down.new.seat.me
    c.count_down.ensures.1 _
    (c.count_down.ensures.0.0 ∙ (c.leave_box.ensures.0.0 ∙ (c.enter_box.ensures.0.0 ∙ c.look-found.ensures.0.0)))
    _ (omega (arith, c.if-pass-lt2.false))

pub returns-in-Some : goal.returns-in-Some
returns-in-Some g c =
    did_turn g.M.Mail.fits _ _ _ _ _ _ c.pass.inside.seat.me c.pass.invariant _ c.look-found.new.seat.me
    c.look-found.ensures.1 _ c.enter_box.new.seat.me c.enter_box.ensures.2 c.args.job c.job.inside.take c.job.view_is c.args.pass.now
    c.pass.view_is c.requires.job _ c.from.ensures _ c.value_at-mailbox.ensures.value c.finish-next.result c.finish-next.new.mailbox
    c.finish-next.ensures c.leave_box.new.seat.me c.leave_box.ensures.1 c.if-pass-lt2.false c.count_down.new.seat.me
    c.count_down.ensures.1 _
    (c.count_down.ensures.0.0 ∙ (c.leave_box.ensures.0.0 ∙ (c.enter_box.ensures.0.0 ∙ c.look-found.ensures.0.0)))
    c.in-Some.job c.in-Some.message c.in-Some.is

pub invariant_of-pass-in-None : goal.invariant_of-pass-in-None
invariant_of-pass-in-None g c =
    turn_on g.M.Mail.fits _ _ _ _ _ _ c.pass.inside.seat.me c.pass.invariant _ c.look-found.new.seat.me
    c.look-found.ensures.1 _ c.enter_box.new.seat.me c.enter_box.ensures.2 c.args.job c.job.inside.take c.job.view_is c.args.pass.now
    c.pass.view_is c.requires.job _ c.from.ensures _ c.value_at-mailbox.ensures.value c.finish-next.result c.finish-next.new.mailbox
    c.finish-next.ensures c.leave_box.new.seat.me c.leave_box.ensures.1 c.if-pass-lt2.false c.count_down.new.seat.me
    c.count_down.ensures.1 _
    (c.count_down.ensures.0.0 ∙ (c.leave_box.ensures.0.0 ∙ (c.enter_box.ensures.0.0 ∙ c.look-found.ensures.0.0)))
    _ (omega (arith, c.if-pass-lt2.false))

pub returns-in-Ok-take : goal.returns-in-Ok-take
returns-in-Ok-take g c = (
  _,
  done_alone g.M.Mail.fits _ _ _ _ _ _ c.pass.inside.seat.me c.pass.invariant _ c.look-found.new.seat.me
      c.look-found.ensures.1 _ c.enter_box.new.seat.me c.enter_box.ensures.2 c.args.job c.job.inside.take c.job.view_is c.args.pass.now
      c.pass.view_is c.requires.job _ c.from.ensures _ c.value_at-mailbox.ensures.value c.finish-next.result c.finish-next.new.mailbox
      c.finish-next.ensures c.leave_box.new.seat.me c.leave_box.ensures.1 c.if-pass-lt2.false c.count_down.new.seat.me
      c.count_down.ensures.1 _
      (c.count_down.ensures.0.0 ∙ (c.leave_box.ensures.0.0 ∙ (c.enter_box.ensures.0.0 ∙ c.look-found.ensures.0.0)))
      c.in-None.is,
  c.in-Ok-take.ensures,
)

pub overflow_sub-pass-in-Some : goal.overflow_sub-pass-in-Some
overflow_sub-pass-in-Some g c = omega (arith, c.if-pass-lt2.false)

pub done-requires-clause-board : goal.done-requires-clause-board
done-requires-clause-board g c = c.requires.board

pub done-requires-clause-job : goal.done-requires-clause-job
done-requires-clause-job g c = c.requires.job
