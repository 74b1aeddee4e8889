-- Each mailbox that is taken out is the order's part.
use Rattle.std.proofs.Common.{◌≡◌, ◌≢◌, ℕ, ◌+◌, ◌<◌, ◌≤◌, Some, None, false, length, slice_get, inl, inr, sym, ap, subst, ◌∙◌, arith}
use Rattle.std.proofs.Common.{get_or-set_other, get_or-set_same}
use Rattle.std.proofs.lemmas.List.{length_push}
use Rattle.std.proofs.lemmas.Bool.{cases_eq}
use Rattle.std.proofs.lemmas.Option.{slice_get_within}
use Rattle.std.specs.Mem.Slots.{slots_filled, slots_items, slots_counts}
use lib.ListN.{get_elem?}
use mathlib.Core.Option.{some, some-injective}
use Rattle.post_ledger.proofs.Histories.{at_push_cases}
use Rattle.switchboard.proofs.BoxEnding.{Rests, rests, ends_is}
use Rattle.switchboard.proofs.lock_per_box.close.settle.Goals as goal

pub loop-slot-init : goal.loop-slot-init
loop-slot-init g c =
    let v = c.close_with-closed.ensures.values in
    let w = c.requires.whole in
    let room = c.requires.room in
    let none = ap length room.0 in (
      rests g.M.Mail.fits c.args.table.shared.key c.args.seat.id c.word-word.result c.args.seat.me.0 _ _ w.0 w.1 w.2 v.2
          c.word-word.ensures,
      c.close_with-closed.ensures.counts.1 ∙ c.requires.table.1.1,
      v.1,
      (λ k lt. absurd (omega arith)),
      none,
      room.1,
      λ q h at. absurd (omega (arith, slice_get_within c.args.room.now.items q h at, none)),
    )

pub take-requires : goal.take-requires
take-requires g c =
    let now = c.loop-slot.invariant in
    let short : c.loop-slot.slot < _ =
    omega
    (arith, c.loop-slot-test.true, c.slot_count-slot-end.ensures, c.close_with-closed.ensures.counts.1, c.requires.table.1.1, now.1) in
    (short, now.2 c.loop-slot.slot (omega arith) short)

pub unreachable-requires : goal.unreachable-requires
unreachable-requires g c =
    let now = c.loop-slot.invariant in
    let r = now.0 in
    let q = c.loop-slot.slot in
    let short : q < c.args.table.shared.key.boxes =
    omega (arith, c.loop-slot-test.true, c.slot_count-slot-end.ensures, c.close_with-closed.ensures.counts.1, c.requires.table.1.1) in
    c.in_default.not-Some _ (sym (some-injective (Some _) c.take.result (sym (r.at q short) ∙ c.take.ensures.value)))

pub loop-slot-preserved : goal.loop-slot-preserved
loop-slot-preserved g c =
    let now = c.loop-slot.invariant in
    let q = c.loop-slot.slot in
    let old = c.loop-slot.closed.slots in
    let others = c.take.ensures.others in
    let p = c.push_reserved.ensures.items in
    let room = c.loop-slot.room.items in
    let short : q < c.args.table.shared.key.boxes =
    omega (arith, c.loop-slot-test.true, c.slot_count-slot-end.ensures, c.close_with-closed.ensures.counts.1, c.requires.table.1.1) in
    let count = slots_counts old in (
      subst (λ l. Rests g.M.Mail.fits c.args.table.shared.key c.args.seat.me.0 c.word-word.result l) (sym others.0) now.0,
      others.2 ∙ now.1,
      (λ k lo hi. ap (λ l. Rattle.std.proofs.Common.get_or l k false) others.1
          ∙ (get_or-set_other (slots_filled old) q k false false (λ e. omega arith) ∙ now.2 k (omega arith) (omega (arith, others.2)))),
      (λ k lt. ap (λ l. Rattle.std.proofs.Common.get_or l k false) others.1 ∙ elim (cases_eq k q) [
        | inl e ↦
            ap (λ j. Rattle.std.proofs.Common.get_or (Rattle.std.proofs.Common.set (slots_filled old) q false) j false) e
            ∙ get_or-set_same (slots_filled old) q false false (omega (arith, count.1, now.1))
        | inr ne ↦ get_or-set_other (slots_filled old) q k false false ne ∙ now.3 k (omega arith)
      ]),
      omega (arith, ap length p, length_push room c.in-Some.mailbox, now.4),
      omega (arith, c.push_reserved.ensures.capacity, now.5),
      (λ j h at. ap (λ l. get_elem? l j) others.0 ∙ elim (at_push_cases room c.in-Some.mailbox h j (sym (ap (λ l. slice_get l j) p) ∙ at)) [
        | inl was ↦ now.6 j h was
        | inr last ↦ ap (get_elem? (slots_items old)) (last.0 ∙ now.4) ∙ (c.take.ensures.value ∙ ap some (c.in-Some.is ∙ ap Some last.1))
      ]),
    )

pub returns : goal.returns
returns g c =
    let now = c.loop-slot.invariant in
    ends_is g.M.Mail.fits c.args.table.shared.key c.args.seat.me.0 c.word-word.result _ now.0 c.loop-slot.room.items
    (omega (
      arith,
      now.4,
      c.loop-slot-test.false,
      c.loop-slot.auto.slot-end,
      c.slot_count-slot-end.ensures,
      c.close_with-closed.ensures.counts.1,
      c.requires.table.1.1,
    )) now.6
