-- The next pass has a seat of its own.
use Rattle.std.proofs.Common.{◌+◌, ◌∙◌, sym, ap, subst, arith, length}
use Rattle.switchboard.specs.Sights.{opened}
use Rattle.switchboard.specs.PerBox.{IsBoardTable}
use Rattle.switchboard.specs.BoxPasses.{IsBoxPass}
use Rattle.switchboard.proofs.Opening.{sights_count}
use Rattle.switchboard.proofs.BoxOpening.{deals_from, dealt_from, dealt_next}
use Rattle.switchboard.proofs.lock_per_box.open.deal.Goals as goal

pub split_seat-own-requires : goal.split_seat-own-requires
split_seat-own-requires g c =
    let key = c.args.shared.now.key in
    let now = c.loop-number.invariant in
    let t = c.requires.table in (
      now.2,
      omega (arith, t.1.0),
      deals_from g.M.Mail.fits key (omega (arith, c.requires.fits.0, t.2)) (omega (arith, t.1.2, t.2))
          (subst (λ w. g.M.Mail.fits w key.to key.first) (sym t.3) c.requires.fits.1)
          c.loop-number.number now.0 _ c.loop-number.seat.me.0 (ap (λ m. m.0) now.3) (omega (arith, now.1, c.loop-number-test.true)),
    )

pub invariant_of-push_reserved : goal.invariant_of-push_reserved
invariant_of-push_reserved g c =
    let key = c.args.shared.now.key in
    let now = c.loop-number.invariant in
    let t = c.requires.table in
    let did = c.split_seat-own.ensures in
    let id = did.3 ∙ now.2 in
    let own = c.split_seat-own.result in
    let p =
    dealt_from g.M.Mail.fits key (omega (arith, c.requires.fits.0, t.2)) (omega (arith, t.1.2, t.2))
    (subst (λ w. g.M.Mail.fits w key.to key.first) (sym t.3) c.requires.fits.1)
    own.table_id c.loop-number.number now.0 c.args.calls c.loop-number.seat.me own.me now.3 did.4
    (omega (arith, now.1, c.loop-number-test.true))
    (subst (λ d. IsBoardTable d key.boxes) (sym id) (subst (λ n. IsBoardTable c.args.shared.now.table_id n) (sym t.2) t.1))
    (omega (arith, c.loop-number-test.true, t.2)) c.requires.calls in
    subst (λ w. IsBoxPass g.M.Mail.fits own.table_id c.loop-number.number c.args.calls _ w c.args.boxes own.me) (t.3 ∙ sym c.of.ensures)
    (subst (λ n. IsBoxPass g.M.Mail.fits own.table_id c.loop-number.number c.args.calls _ key.world.value n own.me) t.2 p)

pub push_reserved-requires : goal.push_reserved-requires
push_reserved-requires g c =
    let key = c.args.shared.now.key in
    let now = c.loop-number.invariant in
    omega (
      arith,
      ap length now.4,
      sights_count c.args.shared.now.table_id (c.args.calls + 1)
          (opened c.args.world.now c.args.boxes key.to key.first) 0 c.loop-number.number,
      now.5,
      c.requires.room.1,
      c.loop-number-test.true,
      c.loop-number.passes.ok,
    )

pub loop-number-preserved : goal.loop-number-preserved
loop-number-preserved g c =
    let key = c.args.shared.now.key in
    let now = c.loop-number.invariant in
    let t = c.requires.table in
    let did = c.split_seat-own.ensures in
    let r =
    dealt_next g.M.Mail.fits key (omega (arith, c.requires.fits.0, t.2)) (omega (arith, t.1.2, t.2))
    (subst (λ w. g.M.Mail.fits w key.to key.first) (sym t.3) c.requires.fits.1)
    c.args.shared.now.table_id c.split_seat-own.result.table_id c.args.calls c.loop-number.number now.0 c.args.world.now c.of.result.value
    c.args.boxes c.loop-number.seat.me c.split_seat-own.new.seat.me c.split_seat-own.result.me
    c.loop-number.passes.items c.push_reserved.new.self.items now.1 c.loop-number-test.true
    (did.3 ∙ now.2) c.of.ensures now.3 did.2 did.4 now.4 c.push_reserved.ensures.items t.2 in
    (r.0, r.1, did.0 ∙ now.2, r.2, r.3, c.push_reserved.ensures.capacity ∙ now.5)
