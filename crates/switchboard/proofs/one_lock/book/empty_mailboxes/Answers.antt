-- One more mailbox is empty.
use Rattle.std.proofs.Common.{length, slice_get, inl, inr, sym, ap, ◌∙◌, arith}
use Rattle.std.proofs.lemmas.List.{length_push}
use Rattle.post_ledger.proofs.Histories.{at_push_cases}
use Rattle.switchboard.proofs.one_lock.book.empty_mailboxes.Goals as goal

pub push_reserved-requires : goal.push_reserved-requires
push_reserved-requires g c = let n = c.loop-number.invariant.0 in let r = c.loop-number.invariant.1 in omega arith

pub loop-number-preserved : goal.loop-number-preserved
loop-number-preserved g c = let p = c.push_reserved.ensures.items in (
  omega (arith, ap length p, length_push c.loop-number.mailboxes.items c.new.result, c.loop-number.invariant.0),
  omega (arith, c.push_reserved.ensures.capacity, c.loop-number.invariant.1),
  (λ q h at. elim (at_push_cases c.loop-number.mailboxes.items c.new.result h q (sym (ap (λ l. slice_get l q) p) ∙ at)) [
    | inl old ↦ c.loop-number.invariant.2 q h old
    | inr last ↦ sym last.1 ∙ c.new.ensures
  ]),
)
