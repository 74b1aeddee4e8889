-- The abort is the pass's own, if there was none before.
use Rattle.std.proofs.Common.{◌≡◌, ◌∙◌, ap, arith}
use Rattle.switchboard.proofs.BoxDones.{abort_on, was_aborted}
use Rattle.switchboard.proofs.lock_per_box.board.LockPerBoxBoard.abort.Given as given
use Rattle.switchboard.proofs.lock_per_box.board.LockPerBoxBoard.abort.Goals as goal
use Rattle.switchboard.proofs.lock_per_box.board.LockPerBoxBoard.abort.Goals.{Else-pass}

-- the pass is one of this board's
at_board : (g : given.Over) (c : Else-pass g) → c.pass.inside.seat.table_id ≡ c.args.self.now.table.shared.table_id
at_board g c = ap (λ s. s.board) c.pass.view_is ∙ c.requires.board

pub raise-requires-clause-table : goal.raise-requires-clause-table
raise-requires-clause-table g c =
    let e = (goal.at.raise-requires-clause-table g c).Else-pass in
    (at_board g e, omega (arith, c.args.self.now.sized.0.0))

pub raise-requires-clause-own : goal.raise-requires-clause-own
raise-requires-clause-own g c =
    let e = (goal.at.raise-requires-clause-own g c).Else-pass in (
      _,
      c.pass.invariant.lanes,
      λ i. c.pass.inside.number,
      c.if-pass.false,
      omega (
        arith,
        c.pass.invariant.near,
        c.pass.invariant.sized.1,
        ap (λ t. t.slots) (at_board g e),
        c.args.self.now.sized.0.1,
      ),
    )

pub invariant_of-pass : goal.invariant_of-pass
invariant_of-pass g c =
    abort_on g.M.Mail.fits _ _ _ _ _ _ c.pass.inside.seat.me c.pass.invariant c.args.cause c.raise.new.seat.me c.raise.ensures.1
    c.if-pass.false _ c.raise.ensures.0.0

pub returns : goal.returns
returns g c =
    was_aborted g.M.Mail.fits _ _ _ _ _ _ c.pass.inside.seat.me c.pass.invariant c.args.cause c.raise.new.seat.me c.raise.ensures.1
    c.if-pass.false _ c.raise.ensures.0.0 c.args.pass.now c.pass.view_is
