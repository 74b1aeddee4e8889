-- The pass's own seat stays as it is.
use Rattle.std.proofs.Common.{ap, sym, subst, ◌∙◌, arith}
use Rattle.switchboard.specs.BoxPasses.{IsBoxPass}
use Rattle.switchboard.proofs.BoxSeats.{tells_allowed}
use Rattle.switchboard.proofs.lock_per_box.board.LockPerBoxBoard.tell.Goals as goal

pub split_seat-requires : goal.split_seat-requires
split_seat-requires g c = (
  ap (λ s. s.board) c.pass.view_is ∙ c.requires,
  omega (arith, c.args.self.now.sized.0.0),
  tells_allowed g.M.Mail.fits c.args.self.now.table.shared.key _ c.pass.inside.seat.me.0,
)

pub invariant_of-pass : goal.invariant_of-pass
invariant_of-pass g c =
    let i = c.pass.inside in
    let did = c.split_seat.ensures in
    subst (λ d. IsBoxPass g.M.Mail.fits d i.number i.left i.made i.world.value i.boxes c.split_seat.new.seat.me) (sym did.0)
    (subst (λ m. IsBoxPass g.M.Mail.fits i.seat.table_id i.number i.left i.made i.world.value i.boxes m) (sym did.2) c.pass.invariant)
