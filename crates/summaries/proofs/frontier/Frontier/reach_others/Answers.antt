use Rattle.std.proofs.Common.{◌+◌, Err, inl, inr, sym, ap, subst, arith, rules}
use Rattle.flow_graph.specs.Flows.{last_of}
use Rattle.summaries.specs.Grows.{IsAt, IsOtherBefore, IsOther}
use Rattle.summaries.proofs.FrontierLemmas.{ok_err, fault_of, grows_as, is_last, one_choice_more, others_all, some_other}
use Rattle.summaries.proofs.ReachLemmas.{still_within, reaches_on, stays_on}
use Rattle.summaries.proofs.frontier.Frontier.reach_others.Goals as goal

pub returns-in_err-reach_next : goal.returns-in_err-reach_next
returns-in_err-reach_next g c =
    let flow = c.args.flow.now in
    let from = c.args.from in
    let k = c.choices.choice in
    let behind = c.choices.invariant.3 in
    let most = c.choices.invariant.4 in
    let failed = c.in_err-reach_next.ensures.adds in
    reaches_on g.S.PathSet.members c.choices.invariant.2 c.in_err-reach_next.ensures.stays (record {
      ok = search rules;
      only = λ t m. elim (failed.only t m) [
        | inl at ↦ inl (k, behind, most, subst (λ next. IsAt from next t) c.choose-next.ensures.next at)
        | inr mid ↦ elim (c.choices.invariant.0.only t mid)
            [ inl some ↦ inl (some_other flow from k (omega (arith, most)) t some) | inr was ↦ inr was ]
      ];
      within = failed.within;
      limit = λ e.
          let (t, at, new, full) = failed.limit (ap Err (sym (fault_of _ _ _ c.from_residual.ensures.1 e))) in
          (t, (k, behind, most, subst (λ next. IsAt from next t) c.choose-next.ensures.next at), new, full);
    })

pub choices-preserved : goal.choices-preserved
choices-preserved g c = (
  one_choice_more c.args.flow.now c.args.from c.choices.choice c.choices.invariant.3 _ _ _ _ _ _ _
      c.choices.invariant.0 c.choose-next.ensures.next c.in_ok-reach_next.ensures.adds.ok,
  still_within g.S.PathSet.members c.in_ok-reach_next.ensures,
  stays_on c.choices.invariant.2 c.in_ok-reach_next.ensures.stays,
  omega arith,
  omega (arith, c.choose-next.ensures.more.0 c.if-not-more.false),
)

pub returns-then-not-more : goal.returns-then-not-more
returns-then-not-more g c =
    let flow = c.args.flow.now in
    let from = c.args.from in
    let k = c.choices.choice in
    let most = c.choices.invariant.4 in
    let least = is_last k (last_of flow) c.choose-next.result.1 c.choose-next.ensures.more c.if-not-more.true in
    let grown = grows_as (IsOtherBefore (k + 1) flow from) (IsOther flow from) _ _ _ _
    (some_other flow from (k + 1) (omega (arith, most))) (others_all flow from k least)
    (one_choice_more flow from k c.choices.invariant.3 _ _ _ _ _ _ _ c.choices.invariant.0 c.choose-next.ensures.next
    c.in_ok-reach_next.ensures.adds.ok) in
    reaches_on g.S.PathSet.members c.choices.invariant.2 c.in_ok-reach_next.ensures.stays (record {
      ok = grown;
      only = grown.only;
      within = c.in_ok-reach_next.ensures.adds.within;
      limit = λ is. absurd (ok_err is);
    })

pub overflow_add-choice : goal.overflow_add-choice
overflow_add-choice g c = let below = c.choose-next.ensures.more.0 c.if-not-more.false in omega (arith, below, c.choose-next.ensures.few)
