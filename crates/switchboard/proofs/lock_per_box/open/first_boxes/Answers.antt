-- One more mailbox has its part of the opening post.
use Rattle.std.proofs.Common.{◌≡◌, length, slice_get, inl, inr, sym, ap, ◌∙◌, arith, subst, Some, ◌∷◌, []}
use Rattle.std.proofs.lemmas.List.{length_push}
use Rattle.post_ledger.specs.declared.entry.Entry.TheVariants.{Posted}
use Rattle.post_ledger.specs.Orders.{part}
use Rattle.post_ledger.proofs.Histories.{at_push_cases}
use Rattle.switchboard.proofs.lock_per_box.open.first_boxes.Goals as goal

pub loop-number-preserved : goal.loop-number-preserved
loop-number-preserved g c =
    let p = c.push_reserved.ensures.items in
    let items = c.loop-number.slots.items in (
      omega (arith, ap length p, length_push items (Some c.in_ok-mailbox.mailbox), c.loop-number.invariant.0),
      omega (arith, c.push_reserved.ensures.capacity, c.loop-number.invariant.1),
      (λ q h at. elim (at_push_cases items (Some c.in_ok-mailbox.mailbox) h q (sym (ap (λ l. slice_get l q) p) ∙ at)) [
        | inl old ↦ c.loop-number.invariant.2 q h old
        | inr last ↦
            subst (λ k. h ≡ Some (part k (Posted c.args.to c.args.boxes c.args.first 0 ∷ []))) (sym (last.0 ∙ c.loop-number.invariant.0))
            (sym last.1 ∙ ap Some c.in_ok-mailbox.ensures)
      ]),
    )
