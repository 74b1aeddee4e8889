-- The mailbox has the Take of the job, and no Done of it.
use Rattle.std.proofs.Common.{◌∙◌, arith, ◌≡◌, ◌<◌, ap, sym}
use Rattle.switchboard.proofs.BoxDones.{may_complete_lent, done_leaves, done_owes, done_on, was_done}
use Rattle.switchboard.proofs.lock_per_box.board.LockPerBoxBoard.done.Given as given
use Rattle.switchboard.proofs.lock_per_box.board.LockPerBoxBoard.done.Goals as goal
use Rattle.switchboard.proofs.lock_per_box.board.LockPerBoxBoard.done.Goals.{Else-pass-eq0}

-- the pass is one of this board's
at_board : (g : given.Over) (c : Else-pass-eq0 g) → c.pass.inside.seat.table_id ≡ c.args.self.now.table.shared.table_id
at_board g c = ap (λ s. s.board) c.pass.view_is ∙ c.requires.board

some_word : (g : given.Over) (c : Else-pass-eq0 g) → 0 < c.args.self.now.table.shared.table_id.words
some_word g c = omega (arith, c.args.self.now.sized.0.0)

-- its mailbox is one of this board's
has_box : (g : given.Over) (c : Else-pass-eq0 g) → c.pass.inside.number < c.args.self.now.table.shared.key.boxes
has_box g c =
    omega (
      arith,
      c.pass.invariant.near,
      c.pass.invariant.sized.1,
      ap (λ t. t.slots) (at_board g c),
      c.args.self.now.sized.0.1,
    )

pub overflow_sub-pass : goal.overflow_sub-pass
overflow_sub-pass g c = omega (arith, c.if-pass-eq0.false)

pub enter_box-requires-clause-table : goal.enter_box-requires-clause-table
enter_box-requires-clause-table g c =
    let e = (goal.at.enter_box-requires-clause-table g c).Else-pass-eq0 in
    (at_board g e, c.args.self.now.sized.0, has_box g e)

pub value_at-requires-clause-table : goal.value_at-requires-clause-table
value_at-requires-clause-table g c =
    let e = (goal.at.value_at-requires-clause-table g c).Else-pass-eq0 in
    c.enter_box.ensures.0.0 ∙ at_board g e

pub leave_box-requires-clause-table : goal.leave_box-requires-clause-table
leave_box-requires-clause-table g c =
    let e = (goal.at.leave_box-requires-clause-table g c).Else-pass-eq0 in
    (c.enter_box.ensures.0.0 ∙ at_board g e, c.args.self.now.sized.0, has_box g e)

pub count_down-requires-clause-table : goal.count_down-requires-clause-table
count_down-requires-clause-table g c =
    let e = (goal.at.count_down-requires-clause-table g c).Else-pass-eq0 in
    (c.leave_box.ensures.0.0 ∙ (c.enter_box.ensures.0.0 ∙ at_board g e), some_word g e)

pub returns-then-pass-eq0 : goal.returns-then-pass-eq0
returns-then-pass-eq0 g c = (
  λ i. c.args.job,
  (sym (ap (λ s. s.calls) c.pass.view_is) ∙ c.if-pass-eq0.true, λ i. c.args.pass.now),
)

pub done-requires-clause-taken : goal.done-requires-clause-taken
done-requires-clause-taken g c =
    (may_complete_lent g.M.Mail.fits _ _ _ _ _ _ c.pass.inside.seat.me c.pass.invariant _ c.enter_box.new.seat.me
    c.enter_box.ensures.2 c.args.job c.job.inside.take c.job.view_is c.args.pass.now c.pass.view_is c.requires.job _ c.from.ensures _
    c.value_at.ensures.value).0

pub done-requires-clause-open : goal.done-requires-clause-open
done-requires-clause-open g c =
    (may_complete_lent g.M.Mail.fits _ _ _ _ _ _ c.pass.inside.seat.me c.pass.invariant _ c.enter_box.new.seat.me
    c.enter_box.ensures.2 c.args.job c.job.inside.take c.job.view_is c.args.pass.now c.pass.view_is c.requires.job _ c.from.ensures _
    c.value_at.ensures.value).1

pub leave_box-requires-clause-inside : goal.leave_box-requires-clause-inside
leave_box-requires-clause-inside g c =
    done_leaves g.M.Mail.fits _ _ _ _ _ _ c.pass.inside.seat.me c.pass.invariant _ c.enter_box.new.seat.me
    c.enter_box.ensures.2 c.args.job c.job.inside.take c.job.view_is c.args.pass.now c.pass.view_is c.requires.job _ c.from.ensures _
    c.value_at.ensures.value
    c.done.new.self c.done.ensures

pub count_down-requires-clause-owes : goal.count_down-requires-clause-owes
count_down-requires-clause-owes g c =
    omega (
      arith,
      done_owes g.M.Mail.fits _ _ _ _ _ _ c.pass.inside.seat.me c.pass.invariant _ c.enter_box.new.seat.me
          c.enter_box.ensures.2 c.args.job c.job.inside.take c.job.view_is c.args.pass.now c.pass.view_is c.requires.job _ c.from.ensures _
          c.value_at.ensures.value
          c.done.new.self c.done.ensures c.leave_box.new.seat.me c.leave_box.ensures.1 c.if-pass-eq0.false,
    )

pub invariant_of-pass : goal.invariant_of-pass
invariant_of-pass g c =
    done_on g.M.Mail.fits _ _ _ _ _ _ c.pass.inside.seat.me c.pass.invariant _ c.enter_box.new.seat.me
    c.enter_box.ensures.2 c.args.job c.job.inside.take c.job.view_is c.args.pass.now c.pass.view_is c.requires.job _ c.from.ensures _
    c.value_at.ensures.value
    c.done.new.self c.done.ensures c.leave_box.new.seat.me c.leave_box.ensures.1 c.if-pass-eq0.false c.count_down.new.seat.me
    c.count_down.ensures.1 _ (c.count_down.ensures.0.0 ∙ (c.leave_box.ensures.0.0 ∙ c.enter_box.ensures.0.0))

pub returns : goal.returns
returns g c =
    was_done g.M.Mail.fits _ _ _ _ _ _ c.pass.inside.seat.me c.pass.invariant _ c.enter_box.new.seat.me
    c.enter_box.ensures.2 c.args.job c.job.inside.take c.job.view_is c.args.pass.now c.pass.view_is c.requires.job _ c.from.ensures _
    c.value_at.ensures.value
    c.done.new.self c.done.ensures c.leave_box.new.seat.me c.leave_box.ensures.1 c.if-pass-eq0.false c.count_down.new.seat.me
    c.count_down.ensures.1 _ (c.count_down.ensures.0.0 ∙ (c.leave_box.ensures.0.0 ∙ c.enter_box.ensures.0.0))
