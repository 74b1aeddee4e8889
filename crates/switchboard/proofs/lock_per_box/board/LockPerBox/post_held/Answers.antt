-- The message is put in under a job of the pass, or the mailbox stays.
use Rattle.std.proofs.Common.{◌≡◌, ◌<◌, ◌∙◌, ap, sym, arith}
use Rattle.switchboard.proofs.BoxPosts.{own_job, some_budget, aborted_on, was_aborted, post_leaves, post_on, was_posted, refused_leaves}
use Rattle.switchboard.proofs.BoxPosts.{refused_owes, refused_on, was_refused}
use Rattle.switchboard.proofs.lock_per_box.board.LockPerBox.post_held.Given as given
use Rattle.switchboard.proofs.lock_per_box.board.LockPerBox.post_held.Goals as goal
use Rattle.switchboard.proofs.lock_per_box.board.LockPerBox.post_held.Goals.{Else-pass-eq0}

-- the pass is one of this board's
at_board : (g : given.Over) (c : Else-pass-eq0 g) → c.pass.inside.seat.table_id ≡ c.args.self.now.table.shared.table_id
at_board g c = ap (λ s. s.board) c.pass.view_is ∙ c.requires.board

some_word : (g : given.Over) (c : Else-pass-eq0 g) → 0 < c.args.self.now.table.shared.table_id.words
some_word g c = omega (arith, c.args.self.now.sized.0.0)

-- the mailbox is one of this board's
has_box : (g : given.Over) (c : Else-pass-eq0 g) → c.args.to < c.args.self.now.table.shared.key.boxes
has_box g c =
    omega (
      arith,
      c.requires.fits.0,
      ap (λ s. s.seen.boxes) c.pass.view_is,
      c.pass.invariant.sized.1,
      ap (λ t. t.slots) (at_board g c),
      c.args.self.now.sized.0.1,
    )

pub overflow_sub-pass : goal.overflow_sub-pass
overflow_sub-pass g c = omega (arith, c.if-pass-eq0.false)

pub returns-then-pass-eq0 : goal.returns-then-pass-eq0
returns-then-pass-eq0 g c = (
  λ i. c.args.message,
  (sym (ap (λ s. s.calls) c.pass.view_is) ∙ c.if-pass-eq0.true, λ i. c.args.pass.now),
)

pub count_up-requires-clause-table : goal.count_up-requires-clause-table
count_up-requires-clause-table g c =
    let e = (goal.at.count_up-requires-clause-table g c).Else-pass-eq0 in
    (at_board g e, some_word g e)

pub count_down-requires-clause-table : goal.count_down-requires-clause-table
count_down-requires-clause-table g c =
    let e = (goal.at.count_down-requires-clause-table g c).Else-pass-eq0 in
    (c.count_up.ensures.0.0 ∙ at_board g e, some_word g e)

pub enter_box-requires-clause-table : goal.enter_box-requires-clause-table
enter_box-requires-clause-table g c =
    let e = (goal.at.enter_box-requires-clause-table g c).Else-pass-eq0 in
    (c.count_up.ensures.0.0 ∙ at_board g e, c.args.self.now.sized.0, has_box g e)

pub value_at-requires-clause-table : goal.value_at-requires-clause-table
value_at-requires-clause-table g c =
    let e = (goal.at.value_at-requires-clause-table g c).Else-pass-eq0 in
    c.enter_box.ensures.0.0 ∙ (c.count_up.ensures.0.0 ∙ at_board g e)

pub leave_box-requires-clause-table : goal.leave_box-requires-clause-table
leave_box-requires-clause-table g c =
    let e = (goal.at.leave_box-requires-clause-table g c).Else-pass-eq0 in
    (c.enter_box.ensures.0.0 ∙ (c.count_up.ensures.0.0 ∙ at_board g e), c.args.self.now.sized.0, has_box g e)

pub count_down-requires-in-Err-clause-table : goal.count_down-requires-in-Err-clause-table
count_down-requires-in-Err-clause-table g c =
    let e = (goal.at.count_down-requires-in-Err-clause-table g c).Else-pass-eq0 in
    (c.leave_box.ensures.0.0 ∙ (c.enter_box.ensures.0.0 ∙ (c.count_up.ensures.0.0 ∙ at_board g e)), some_word g e)

pub leave_box-requires-2-clause-table : goal.leave_box-requires-2-clause-table
leave_box-requires-2-clause-table g c =
    let e = (goal.at.leave_box-requires-2-clause-table g c).Else-pass-eq0 in
    (c.enter_box.ensures.0.0 ∙ (c.count_up.ensures.0.0 ∙ at_board g e), c.args.self.now.sized.0, has_box g e)

pub count_up-requires-clause-job : goal.count_up-requires-clause-job
count_up-requires-clause-job g c =
    own_job g.M.Mail.fits _ _ _ _ _ _ c.pass.inside.seat.me c.pass.invariant c.if-pass-eq0.false c.args.job.now c.args.pass.now
    c.pass.view_is c.requires.job

pub count_up-requires-clause-budget : goal.count_up-requires-clause-budget
count_up-requires-clause-budget g c =
    some_budget g.M.Mail.fits _ _ _ _ _ _ c.pass.inside.seat.me c.pass.invariant c.if-pass-eq0.false c.args.job.now c.args.pass.now
    c.pass.view_is c.requires.job

pub invariant_of-pass : goal.invariant_of-pass
invariant_of-pass g c =
    aborted_on g.M.Mail.fits _ _ _ _ _ _ c.pass.inside.seat.me c.pass.invariant c.if-pass-eq0.false c.args.job.now c.args.pass.now
    c.pass.view_is c.requires.job _ c.count_up.new.seat.me c.count_up.ensures.1
    c.args.message c.if-count_up-ge-ABORTED.true c.count_down.new.seat.me c.count_down.ensures.1
    _ (c.count_down.ensures.0.0 ∙ c.count_up.ensures.0.0)

pub returns-then-count_up-ge-ABORTED : goal.returns-then-count_up-ge-ABORTED
returns-then-count_up-ge-ABORTED g c =
    was_aborted g.M.Mail.fits _ _ _ _ _ _ c.pass.inside.seat.me c.pass.invariant c.if-pass-eq0.false c.args.job.now c.args.pass.now
    c.pass.view_is c.requires.job _ c.count_up.new.seat.me c.count_up.ensures.1
    c.args.message c.if-count_up-ge-ABORTED.true c.count_down.new.seat.me c.count_down.ensures.1
    _ (c.count_down.ensures.0.0 ∙ c.count_up.ensures.0.0)

pub leave_box-requires-clause-inside : goal.leave_box-requires-clause-inside
leave_box-requires-clause-inside g c =
    refused_leaves g.M.Mail.fits _ _ _ _ _ _ c.pass.inside.seat.me c.pass.invariant c.if-pass-eq0.false c.args.job.now c.args.pass.now
    c.pass.view_is c.requires.job _ c.count_up.new.seat.me c.count_up.ensures.1 c.if-count_up-ge-ABORTED.false c.args.to _
    c.enter_box.new.seat.me c.enter_box.ensures.2 _ c.from.ensures _ c.value_at.ensures.value
    c.post.new.self c.in-Err.ensures.err.1

pub count_down-requires-in-Err-clause-owes : goal.count_down-requires-in-Err-clause-owes
count_down-requires-in-Err-clause-owes g c =
    omega (
      arith,
      refused_owes g.M.Mail.fits _ _ _ _ _ _ c.pass.inside.seat.me c.pass.invariant c.if-pass-eq0.false c.args.job.now c.args.pass.now
          c.pass.view_is c.requires.job _ c.count_up.new.seat.me c.count_up.ensures.1 c.if-count_up-ge-ABORTED.false c.args.to _
          c.enter_box.new.seat.me c.enter_box.ensures.2 _ c.from.ensures _ c.value_at.ensures.value
          c.post.new.self c.in-Err.ensures.err.1
          c.leave_box.new.seat.me c.leave_box.ensures.1,
    )

pub invariant_of-pass-in-Err : goal.invariant_of-pass-in-Err
invariant_of-pass-in-Err g c =
    refused_on g.M.Mail.fits _ _ _ _ _ _ c.pass.inside.seat.me c.pass.invariant c.if-pass-eq0.false c.args.job.now c.args.pass.now
    c.pass.view_is c.requires.job _ c.count_up.new.seat.me c.count_up.ensures.1 c.if-count_up-ge-ABORTED.false c.args.to _
    c.enter_box.new.seat.me c.enter_box.ensures.2 _ c.from.ensures _ c.value_at.ensures.value
    c.post.new.self c.in-Err.ensures.err.1
    c.leave_box.new.seat.me c.leave_box.ensures.1 c.count_down-in-Err.new.seat.me c.count_down-in-Err.ensures.1
    _ (c.count_down-in-Err.ensures.0.0 ∙ (c.leave_box.ensures.0.0 ∙ (c.enter_box.ensures.0.0 ∙ c.count_up.ensures.0.0)))

pub returns-in-Err : goal.returns-in-Err
returns-in-Err g c =
    was_refused g.M.Mail.fits _ _ _ _ _ _ c.pass.inside.seat.me c.pass.invariant c.if-pass-eq0.false c.args.job.now c.args.pass.now
    c.pass.view_is c.requires.job _ c.count_up.new.seat.me c.count_up.ensures.1 c.if-count_up-ge-ABORTED.false c.args.to _
    c.enter_box.new.seat.me c.enter_box.ensures.2 _ c.from.ensures _ c.value_at.ensures.value
    c.post.new.self c.in-Err.ensures.err.1
    c.leave_box.new.seat.me c.leave_box.ensures.1 c.count_down-in-Err.new.seat.me c.count_down-in-Err.ensures.1
    _ (c.count_down-in-Err.ensures.0.0 ∙ (c.leave_box.ensures.0.0 ∙ (c.enter_box.ensures.0.0 ∙ c.count_up.ensures.0.0)))
    c.args.message c.in-Err.back c.in-Err.ensures.err.0

pub leave_box-requires-2-clause-inside : goal.leave_box-requires-2-clause-inside
leave_box-requires-2-clause-inside g c =
    post_leaves g.M.Mail.fits _ _ _ _ _ _ c.pass.inside.seat.me c.pass.invariant c.if-pass-eq0.false c.args.job.now c.args.pass.now
    c.pass.view_is c.requires.job _ c.count_up.new.seat.me c.count_up.ensures.1 c.if-count_up-ge-ABORTED.false c.args.to _
    c.enter_box.new.seat.me c.enter_box.ensures.2 _ c.from.ensures _ c.value_at.ensures.value
    c.args.message c.requires.fits.1 c.post.new.self c.in_default.ensures.ok

pub invariant_of-pass-2 : goal.invariant_of-pass-2
invariant_of-pass-2 g c =
    post_on g.M.Mail.fits _ _ _ _ _ _ c.pass.inside.seat.me c.pass.invariant c.if-pass-eq0.false c.args.job.now c.args.pass.now
    c.pass.view_is c.requires.job _ c.count_up.new.seat.me c.count_up.ensures.1 c.if-count_up-ge-ABORTED.false c.args.to _
    c.enter_box.new.seat.me c.enter_box.ensures.2 _ c.from.ensures _ c.value_at.ensures.value
    c.args.message c.requires.fits.1 c.post.new.self c.in_default.ensures.ok
    c.leave_box-2.new.seat.me c.leave_box-2.ensures.1 _ (c.leave_box-2.ensures.0.0 ∙ (c.enter_box.ensures.0.0 ∙ c.count_up.ensures.0.0))

pub returns : goal.returns
returns g c =
    was_posted g.M.Mail.fits _ _ _ _ _ _ c.pass.inside.seat.me c.pass.invariant c.if-pass-eq0.false c.args.job.now c.args.pass.now
    c.pass.view_is c.requires.job _ c.count_up.new.seat.me c.count_up.ensures.1 c.if-count_up-ge-ABORTED.false c.args.to _
    c.enter_box.new.seat.me c.enter_box.ensures.2 _ c.from.ensures _ c.value_at.ensures.value
    c.args.message c.requires.fits.1 c.post.new.self c.in_default.ensures.ok
    c.leave_box-2.new.seat.me c.leave_box-2.ensures.1 _ (c.leave_box-2.ensures.0.0 ∙ (c.enter_box.ensures.0.0 ∙ c.count_up.ensures.0.0))
