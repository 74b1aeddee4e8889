-- The pair that is found has the bit; if none is found, no pair of the first procedure has it.
use Rattle.std.proofs.Common.{◌≡◌, ◌≤◌, true, false, Some, slice_get, get_or, inl, inr, refl, sym, ap, ◌∙◌, subst, arith}
use Rattle.std.proofs.Common.{true≢false}
use Rattle.std.proofs.Math.Nat.{eq-or-lt_of_le}
use Rattle.std.proofs.lemmas.Option.{slice_get-get_or, get_or_from_slice_get, same_Some, slice_get_within}
use Rattle.language.specs.Lists.{Member}
use Rattle.flow_graph.specs.Bits.{bit_of}
use Rattle.summaries.specs.declared.pair.Pair.{Pair}
use Rattle.summaries.specs.Effects.{Effect, Effects}
use Rattle.summaries.specs.Found.{pair, left}
use Rattle.summaries.proofs.summaries.Summaries.bad.Given.{Over}
use Rattle.summaries.proofs.summaries.Summaries.bad.Goals as goal
use Rattle.summaries.proofs.summaries.Summaries.bad.Goals.{In-Some}
use Rattle.path_sets.proofs.PlaceLemmas.{at_index, index_of}

-- the first procedure's summary is there
main_is : (g : Over) (c : In-Some g) → slice_get c.args.self.now.procedures 0 ≡ Some c.in-Some.main.now
main_is g c = ap (λ (e : Effects). slice_get e.procedures 0) (sym c.self.view_is) ∙
    ap (λ l. slice_get l 0) (sym c.as_slice.ensures.value) ∙ sym c.in-Some.ensures.value

pub returns-then-has_bit : goal.returns-then-has_bit
returns-then-has_bit g c =
    (λ _. (c.in-Some.main.now, main_is g (goal.at.returns-then-has_bit g c).In-Some, (x.a, left x.b x.r, member, bit)), λ _. refl)
  where
    x : Pair
    x = get_or c.deref-pair-items.result.now c.loop-pair.pair-index (pair 0 (left 0 false))

    member : Member x c.in-Some.main.now.pairs
    member =
        subst (λ (e : Effect). Member x e.pairs) c.main.view_is
        (subst (Member x) c.deref-pair-items.ensures.value
        (at_index c.deref-pair-items.result.now x c.loop-pair.pair-index
        (slice_get-get_or c.deref-pair-items.result.now c.loop-pair.pair-index (pair 0 (left 0 false)) c.loop-pair-test.true)))

    bit : bit_of x.b c.args.self.now.bad ≡ true
    bit = ap (λ (e : Effects). bit_of x.b e.bad) (sym c.self.view_is) ∙ sym c.has_bit.ensures ∙ c.if-has_bit.true

pub loop-pair-preserved : goal.loop-pair-preserved
loop-pair-preserved g c = λ q x below is bit.
    elim (eq-or-lt_of_le (let within : q ≤ c.loop-pair.pair-index = omega (arith, below) in within)) [
      | inr before ↦ c.loop-pair.invariant q x before is bit
      | inl now ↦
          let here : get_or c.deref-pair-items.result.now c.loop-pair.pair-index (pair 0 (left 0 false)) ≡ x =
          get_or_from_slice_get c.deref-pair-items.result.now c.loop-pair.pair-index x (pair 0 (left 0 false))
          (ap (slice_get c.deref-pair-items.result.now) (sym now) ∙ is) in
          true≢false (sym bit ∙ ap (λ (y : Pair). bit_of y.b c.args.self.now.bad) (sym here)
          ∙ ap (λ (e : Effects). bit_of (get_or c.deref-pair-items.result.now c.loop-pair.pair-index (pair 0 (left 0 false))).b
          e.bad) (sym c.self.view_is) ∙ sym c.has_bit.ensures ∙ c.if-has_bit.false)
    ]

pub returns : goal.returns
returns g c = (
  λ e. absurd (true≢false (sym e)),
  λ h.
      let (summary, is, found) = h in
      let (a, b, m, bit) = found in
      let same = same_Some summary c.in-Some.main.now (sym is ∙ main_is g (goal.at.returns g c).In-Some) in
      let (q, there) = index_of c.deref-pair-items.result.now (pair a b)
      (subst (Member (pair a b)) (ap (λ (e : Effect). e.pairs) (same ∙ sym c.main.view_is) ∙
      sym c.deref-pair-items.ensures.value) m) in
      let below = slice_get_within c.deref-pair-items.result.now q (pair a b) there in
      absurd (c.loop-pair.invariant q (pair a b) (omega (arith, below, c.loop-pair-test.false)) there bit),
)
