-- The table is laid for the parameters, and the first seat begins with what is known of them.
use Rattle.std.proofs.Common.{◌≡◌, ◌+◌, ◌-◌, ◌<◌, [], sym, ap, ◌∙◌, subst, arith}
use Rattle.switchboard.specs.Knowing.{first_view}
use Rattle.switchboard.specs.PerBox.{IsBoardTable}
use Rattle.switchboard.specs.Sights.{opened, fresh_sights}
use Rattle.switchboard.specs.declared.lock_per_box.knowing.Ground.{Ground}
use Rattle.post_ledger.specs.declared.mailbox.Mailbox.{Mailbox}
use Rattle.switchboard.proofs.lock_per_box.board.LockPerBox.of.Goals as goal

pub lay-requires-clause-fits : goal.lay-requires-clause-fits
lay-requires-clause-fits g c = subst (λ w. g.M.Mail.fits w c.args.about.to c.args.about.first) (sym c.requires.world) c.requires.fits

pub deal-requires-clause-calls : goal.deal-requires-clause-calls
deal-requires-clause-calls g c = omega (arith, c.requires.budget.1)

pub deal-requires-clause-room : goal.deal-requires-clause-room
deal-requires-clause-room g c = (
  c.in_ok-passes.ensures.items,
  omega (arith, c.in_ok-passes.ensures.capacity, c.from-2.ensures),
)

pub deal-requires-clause-table : goal.deal-requires-clause-table
deal-requires-clause-table g c =
    let laid = c.in_ok-table.ensures in
    let key = laid.0 in (
      laid.2,
      laid.1,
      ap (λ (a : Ground g.row.M.Denot g.row.W.Denot). a.boxes) key,
      ap (λ (a : Ground g.row.M.Denot g.row.W.Denot). a.world.value) key ∙ c.requires.world,
    )

pub deal-requires-clause-fits : goal.deal-requires-clause-fits
deal-requires-clause-fits g c =
    subst (λ (a : Ground g.row.M.Denot g.row.W.Denot). (a.to < c.args.about.boxes) × g.M.Mail.fits c.args.world.now a.to a.first)
    (sym c.in_ok-table.ensures.0) (c.requires.boxes.0, c.requires.fits)

pub deal-requires-clause-seat : goal.deal-requires-clause-seat
deal-requires-clause-seat g c =
    c.in_ok-table.ensures.3
    ∙ ap (λ (a : Ground g.row.M.Denot g.row.W.Denot).
    (first_view {T = Mailbox g.row.M.Denot g.row.A.Denot} a 0 c.args.about.boxes, [])) (sym c.in_ok-table.ensures.0)

pub invariant_of-result : goal.invariant_of-result
invariant_of-result g c =
    let laid = c.in_ok-table.ensures in
    let boxes = ap (λ (a : Ground g.row.M.Denot g.row.W.Denot). a.boxes) laid.0 in
    let room = c.in_ok-room.ensures in
    record {
      sized = (subst (IsBoardTable c.in_ok-table.table.shared.table_id) (sym boxes) laid.1, omega (arith, boxes, c.requires.boxes.0));
      free = (room.len, omega (arith, boxes, room.capacity, c.from.ensures));
    }

pub returns : goal.returns
returns g c =
    let about = c.args.about in
    let id = c.in_ok-table.table.shared.table_id in
    let key = c.in_ok-table.ensures.0 in
    let budget : c.args.budget - 1 + 1 ≡ c.args.budget = omega (arith, c.requires.budget.0) in (
      ap (λ (a : Ground g.row.M.Denot g.row.W.Denot). a.boxes) key,
      subst
          (λ n. c.deal.new.passes.items
          ≡ fresh_sights id n (opened c.args.world.now about.boxes about.to about.first) 0 about.boxes)
          budget
          (subst
          (λ (a : Ground g.row.M.Denot g.row.W.Denot). c.deal.new.passes.items
          ≡ fresh_sights id (c.args.budget - 1 + 1) (opened c.args.world.now about.boxes a.to a.first) 0 about.boxes)
          key c.deal.ensures),
    )
