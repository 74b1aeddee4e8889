use Rattle.std.proofs.Common.{◌∙◌, subst}
use Rattle.switchboard.specs.PerBox.{SeatTookIn}
use Rattle.switchboard.proofs.BoxSeats.{joins_allowed}
use Rattle.switchboard.proofs.BoxWords.{takes_in}
use Rattle.switchboard.proofs.lock_per_box.outstanding.take_in.Goals as goal

pub join_seat-requires : goal.join_seat-requires
join_seat-requires g c =
    let t = c.requires.table in (
      t.0,
      t.1,
      c.requires.none,
      t.2,
      joins_allowed g.M.Mail.fits c.args.shared.now.key _ _ c.args.seat.now.me.0 c.args.other.me.0 c.requires.mine c.requires.theirs,
    )

pub load-requires : goal.load-requires
load-requires g c = (
  c.join_seat.ensures.0 ∙ c.requires.table.0,
  c.requires.table.2,
  takes_in g.M.Mail.fits c.args.shared.now.key _ _ c.join_seat.new.seat.me,
)

pub returns : goal.returns
returns g c = (
  (c.load.ensures.0 ∙ c.join_seat.ensures.0, c.load.ensures.1 ∙ c.join_seat.ensures.1),
  subst (λ m. SeatTookIn g.M.Mail.fits m c.load.new.seat.me) c.join_seat.ensures.2 c.load.ensures.2,
)
