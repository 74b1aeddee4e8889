-- One more summary is sent.
use Rattle.std.proofs.Common.{◌≡◌, ◌+◌, ◌-◌, ◌∙◌, refl, inl, inr, arith}
use Rattle.summaries.specs.Exits.{pair, count_of}
use Rattle.summaries.specs.Grows.{IsTold}
use Rattle.summaries.proofs.FrontierLemmas.{failed_ok}
use Rattle.summaries.proofs.WalkLemmas.{none_first, all_last, told_next, not_yet, next_below}
use Rattle.summaries.proofs.sending.send_summaries.Goals as goal

pub pairs-init : goal.pairs-init
pairs-init g c = record {
  leads = (count_of c.args.exits.now, c.last_of-link.ensures);
  sent =
      none_first c.args.exits.now c.args.entry
      (λ at. IsTold at c.args.caller) c.last_of-link.result c.last_of-link.ensures c.args.outbox.now.sent.items;
  answered = refl;
}

pub send_summary-requires : goal.send_summary-requires
send_summary-requires g c =
    let link = c.pairs.link in
    let is : link ≡ link - 1 + 1 = omega (arith, c.pairs-test.true) in
    let (before, leads) = c.pairs.invariant.leads in
    let (less, (b, here)) = leads.there (link - 1) is in
    not_yet c.args.exits.now c.args.entry c.args.caller (link - 1) link is b here c.args.outbox.now.sent.items
    c.pairs.outbox.sent.items c.pairs.invariant.sent c.requires

pub returns-in_err-send_summary : goal.returns-in_err-send_summary
returns-in_err-send_summary g c =
    let link = c.pairs.link in
    let is : link ≡ link - 1 + 1 = omega (arith, c.pairs-test.true) in
    let (before, leads) = c.pairs.invariant.leads in
    let (less, there) = leads.there (link - 1) is in
    record {
      ok = failed_ok _ _ c.from_residual.result c.from_residual.ensures.1;
      only = λ x m. elim (c.in_err-send_summary.ensures.only x m) [
        | inl told ↦ inl (link - 1, there, told)
        | inr was ↦ elim (c.pairs.invariant.sent.only x was) [
          | inl (k, high, its, told) ↦ inl (k, its, told)
          | inr old ↦ inr old
        ]
      ];
      answered = c.in_err-send_summary.ensures.answered ∙ c.pairs.invariant.answered;
    }

pub left_at-requires : goal.left_at-requires
left_at-requires g c =
    let link = c.pairs.link in
    let is : link ≡ link - 1 + 1 = omega (arith, c.pairs-test.true) in
    let (before, leads) = c.pairs.invariant.leads in
    let (less, (b, here)) = leads.there (link - 1) is in
    (pair c.args.entry b, here)

pub pairs-smaller : goal.pairs-smaller
pairs-smaller g c =
    let link = c.pairs.link in
    let is : link ≡ link - 1 + 1 = omega (arith, c.pairs-test.true) in
    let (before, leads) = c.pairs.invariant.leads in
    let (less, (b, here)) = leads.there (link - 1) is in
    let low = next_below c.args.exits.now c.args.entry (λ at. IsTold at c.args.caller) (link - 1) link c.left_at.result.1 is b here
    (c.left_at.ensures.before (pair c.args.entry b) here) in
    let more = c.pairs-test.true in
    omega (arith, low, more)

pub pairs-preserved : goal.pairs-preserved
pairs-preserved g c =
    let link = c.pairs.link in
    let is : link ≡ link - 1 + 1 = omega (arith, c.pairs-test.true) in
    let (before, leads) = c.pairs.invariant.leads in
    let (less, (b, here)) = leads.there (link - 1) is in
    let next = c.left_at.ensures.before (pair c.args.entry b) here in
    record {
      leads = (link - 1, next);
      sent = told_next c.args.exits.now c.args.entry (λ at. IsTold at c.args.caller) (link - 1) link c.left_at.result.1 is b here next
          c.args.outbox.now.sent.items c.pairs.outbox.sent.items c.send_summary.new.outbox.sent.items
          c.pairs.invariant.sent c.in_ok-send_summary.ensures.ok;
      answered = c.in_ok-send_summary.ensures.answered ∙ c.pairs.invariant.answered;
    }

pub returns : goal.returns
returns g c =
    let gives = all_last c.args.exits.now c.args.entry (λ at. IsTold at c.args.caller) c.pairs.link (omega (arith, c.pairs-test.false))
    c.args.outbox.now.sent.items c.pairs.outbox.sent.items c.pairs.invariant.sent in
    record { ok = gives; only = gives.only; answered = c.pairs.invariant.answered }
