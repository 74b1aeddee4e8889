use Rattle.std.proofs.Common.{◌∙◌, ap, arith, [], ◌∷◌, length}
use Rattle.ticket_lock.proofs.LoneOpening.{deals_from, length-fresh, dealt_next}
use Rattle.ticket_lock.proofs.open.deal.Goals as goal

pub split_seat-own-requires : goal.split_seat-own-requires
split_seat-own-requires g c =
    let L = g.T.LaneLaw in
    let key = c.args.shared.now.key in
    let now = c.loop-number.invariant in (
      now.2,
      omega (arith, c.requires.table.1),
      deals_from L.before L.part key.value.value key.lanes _
          (key.value.value ∷ []) c.loop-number.number now.0 key.value.value c.loop-number.seat.me.0 (ap (λ m. m.0) now.3) (omega arith),
    )

pub push_reserved-requires : goal.push_reserved-requires
push_reserved-requires g c =
    let now = c.loop-number.invariant in
    omega (
      arith,
      ap length now.4,
      length-fresh c.args.shared.now.table_id c.args.budget 0 c.loop-number.number c.args.shared.now.key.value.value,
      c.loop-number.dealt.ok.0,
      c.requires.room.1,
    )

pub loop-number-preserved : goal.loop-number-preserved
loop-number-preserved g c =
    let now = c.loop-number.invariant in
    let did = c.split_seat-own.ensures in
    let r =
    dealt_next c.args.shared.now.table_id c.split_seat-own.result.table_id c.args.budget c.loop-number.number c.from.result
    c.args.lanes now.0 c.args.shared.now.key.value.value c.loop-number.seat.me c.split_seat-own.new.seat.me
    c.split_seat-own.result.me c.loop-number.dealt.items c.push_reserved.new.self.items now.1 c.loop-number-test.true c.from.ensures
    (did.3 ∙ now.2) now.3 did.2 did.4 now.4 c.push_reserved.ensures.items in
    (r.0, r.1, did.0 ∙ now.2, r.2, r.3, c.push_reserved.ensures.capacity ∙ now.5)
