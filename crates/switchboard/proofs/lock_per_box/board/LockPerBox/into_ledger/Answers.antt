-- The seat has all passes, and so it knows what is left.
use Rattle.std.proofs.Common.{arith}
use Rattle.std.proofs.lemmas.List.{nil_from_length}
use Rattle.switchboard.proofs.BoxEnding.{settles_is}
use Rattle.switchboard.proofs.lock_per_box.board.LockPerBox.into_ledger.Goals as goal

pub returns-clause-settles : goal.returns-clause-settles
returns-clause-settles g c =
    settles_is g.M.Mail.fits c.args.self.table.shared.key c.args.self.table.shared.table_id c.args.passes.now.items c.gather-seat.result.me
    _ _ c.requires c.gather-seat.ensures.gathered c.settle-closed.ensures

pub returns-clause-empty : goal.returns-clause-empty
returns-clause-empty g c = c.gather-seat.ensures.empty

pub settle-closed-requires-clause-room : goal.settle-closed-requires-clause-room
settle-closed-requires-clause-room g c = (
  nil_from_length c.args.self.room.items (omega (arith, c.args.self.free.0, c.args.self.room.ok)),
  c.args.self.free.1,
)

pub settle-closed-requires-clause-table : goal.settle-closed-requires-clause-table
settle-closed-requires-clause-table g c = (c.gather-seat.ensures.table, c.args.self.sized.0)

pub settle-closed-requires-clause-whole : goal.settle-closed-requires-clause-whole
settle-closed-requires-clause-whole g c =
    let all = c.gather-seat.ensures.gathered in
    (omega (arith, all.count, c.requires.0), all.owes, λ q near. (all.quiet q near).1)

pub gather-seat-requires-clause-all : goal.gather-seat-requires-clause-all
gather-seat-requires-clause-all g c = c.requires

pub gather-seat-requires-clause-table : goal.gather-seat-requires-clause-table
gather-seat-requires-clause-table g c = c.args.self.sized
