use Rattle.std.proofs.Common.{◌≡◌, true, sym, refl, subst, length, ◌≤◌, true≢false, ◌∙◌}
use Rattle.stack_sets.proofs.WithinLemmas.{match_more, match_all}
use Rattle.stack_sets.proofs.inclusions.has_all.Goals as goal
use Rattle.stack_sets.proofs.inclusions.has_all.Goals.{else-one-via-then-one+else-not-other, else-one-via-else-one}

pub loop-head-preserved : goal.loop-head-preserved
loop-head-preserved g c =
    match_more c.args.pairs.now.keys c.args.known.now.keys c.args.one.now.heads.items c.as_slice-head-items.result.now
    c.args.other.now.heads.items c.as_slice.result.now c.loop-head.head-index _ c.as_slice-head-items.ensures.value
    c.as_slice.ensures.value c.loop-head.invariant (c.if-not-has_match.ensures refl)

pub returns : goal.returns
returns g c t =
    match_all c.args.pairs.now.keys c.args.known.now.keys c.args.one.now c.args.other.now c.loop-head.head-index bare
    (subst (λ l. length l ≤ c.loop-head.head-index) c.as_slice-head-items.ensures.value c.loop-head-test.false) c.loop-head.invariant
  where
    bare : c.args.one.now.bare ≡ true → c.args.other.now.bare ≡ true
    bare is = elim c.else-one.branch [
      | else-one-via-then-one+else-not-other w ↦ w.if-not-other.false
      | else-one-via-else-one w ↦ absurd (true≢false (sym is ∙ w.if-one.false))
    ]
