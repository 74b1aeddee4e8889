-- Pairs that are read entry by entry.
use Rattle.std.proofs.Common.{◌≡◌, ◌<◌, ◌+◌, ◌↔◌, ◌⊎◌, ℕ, zero, suc, nat_eq, Bool, true, false, IsTrue, Ordering, List, [], ◌∷◌}
use Rattle.std.proofs.Common.{length, get_or, Some}
use Rattle.std.proofs.Common.{◌&&◌, ap₂, inl, inr, refl, sym, ap, ◌∙◌, subst, arith, true≢false}
use Rattle.std.specs.List.{AllAdjacentBelow, IsAllAdjacentAnswer}
use Rattle.std.specs.declared.cmp.Ordering.TheVariants.{Less, Equal, Greater}
use Rattle.std.proofs.lemmas.Cmp.{ranked}
use Rattle.summaries.specs.Found.{pair, left}
use Rattle.std.specs.List.{dedup, Contains}
use Rattle.std.specs.Cmp.{IsEquivalence}
use Rattle.std.specs.List.Sorted.{IsStrictlySortedBy}
use Rattle.std.proofs.lemmas.List.Kept.{Contains-dedup, Contains-from_dedup, IsStrictlySortedBy-dedup}
use Rattle.std.proofs.lemmas.List.Filters.{dedup_is}
use Rattle.std.specs.Cmp.{IsTotalOrder, on_total, then_total, bool_cmp_total, unsigned_ties, tied_then}
use Rattle.std.proofs.lemmas.Cmp.{nat_cmp_total, eq_by_cmp_equiv}
use Rattle.std.specs.Bool.{beq}
use Rattle.std.specs.List.Sorted.{IsPermutation, IsSorted}
use Rattle.std.specs.List.Retain.{IsFiltered, DiffersFromLast}
use Rattle.std.proofs.lemmas.Option.{slice_get_within, get_or_from_slice_get, slice_get-get_or}
use Rattle.std.proofs.lemmas.Map.Views.{exact_unsigned_eq, All-after_first}
use Rattle.std.proofs.lemmas.Map.Keys.{sorted_tail}
use Rattle.std.specs.Ordering.{is_lt, is_eq, eq_by_cmp, MatchOrdering, nat_cmp, bool_cmp, ordering_then}
use Rattle.language.specs.Lists.{Member}
use Rattle.path_sets.proofs.PlaceLemmas.{at_index, index_of}
use Rattle.summaries.specs.declared.pair.Pair.{Pair}
use Rattle.summaries.specs.Tabulated.{IsPairBefore, ArePairsAscending}
use Rattle.summaries.proofs.SortedLemmas.{pair_cmp, pair_eq, same_members}

-- what compares less by a number, or by what comes after it
first_less : (m n : ℕ) (behind : Ordering)
    → (is_lt (ordering_then (nat_cmp m n) behind) ≡ true) ↔ ((m < n) ⊎ ((m ≡ n) × (is_lt behind ≡ true)))
first_less m n behind = by (nat_cmp m n) (ranked m n (nat_cmp m n) refl)
  where
    by : (r : Ordering) → MatchOrdering r (m < n) (m ≡ n) (n < m)
        → (is_lt (ordering_then r behind) ≡ true) ↔ ((m < n) ⊎ ((m ≡ n) × (is_lt behind ≡ true)))
    by Less less = (λ e. inl less, λ h. refl)
    by Equal same = (
      λ e. inr (same, e),
      λ h. elim h [ inl less ↦ absurd (omega (arith, less, same)) | inr rest ↦ rest.1 ],
    )
    by Greater more = (
      λ e. absurd (true≢false (sym e)),
      λ h. elim h [ inl less ↦ absurd (omega (arith, less, more)) | inr rest ↦ let e = rest.0 in absurd (omega (arith, e, more)) ],
    )

result_less : (x y : Bool) → (is_lt (bool_cmp x y) ≡ true) ↔ ((x ≡ false) × (y ≡ true))
result_less true true = (λ e. absurd (true≢false (sym e)), λ h. absurd (true≢false h.0))
result_less true false = (λ e. absurd (true≢false (sym e)), λ h. absurd (true≢false h.0))
result_less false true = (λ e. (refl, refl), λ h. refl)
result_less false false = (λ e. absurd (true≢false (sym e)), λ h. absurd (true≢false (sym h.1)))

-- a pair is before another if it compares less
less_is_before : (x y : Pair) → (is_lt (pair_cmp x y) ≡ true) ↔ IsPairBefore x y
less_is_before x y =
    let (first, first_back) = first_less x.a y.a (ordering_then (nat_cmp x.b y.b) (bool_cmp x.r y.r)) in
    let (second, second_back) = first_less x.b y.b (bool_cmp x.r y.r) in
    let (last, last_back) = result_less x.r y.r in (
      λ e. elim (first e) [
        | inl a ↦ inl a
        | inr rest ↦
            inr (rest.0, elim (second rest.1) [ inl b ↦ inl b | inr r ↦ inr (r.0, (last r.1).0, (last r.1).1) ])
      ],
      λ before. first_back (elim before [
        | inl a ↦ inl a
        | inr rest ↦
            inr (rest.0, second_back (elim rest.1 [ inl b ↦ inl b | inr r ↦ inr (r.0, last_back (r.1, r.2)) ]))
      ]),
    )

-- pairs of which each is less than the next ascend
each_before : (xs : List Pair) → AllAdjacentBelow (λ x y. true ≡ is_lt (pair_cmp x y)) xs (length xs) → ArePairsAscending xs
each_before [] each = tt
each_before (x ∷ []) each = tt
each_before (x ∷ y ∷ zs) each = (
  (less_is_before x y).0 (sym (each 0 x (omega arith))),
  each_before (y ∷ zs) (λ k d within.
      let e : suc k + 1 ≡ suc (k + 1) = omega arith in
      subst (λ n. true ≡ is_lt (pair_cmp (get_or (y ∷ zs) k d) (get_or (x ∷ y ∷ zs) n d))) e (each (suc k) d (omega (arith, within)))),
)

-- and each of those that ascend is less than the next
next_less : (xs : List Pair) → ArePairsAscending xs → (k : ℕ) → k + 1 < length xs → (d : Pair)
    → is_lt (pair_cmp (get_or xs k d) (get_or xs (k + 1) d)) ≡ true
next_less [] up k within d = absurd (omega (arith, within))
next_less (x ∷ []) up k within d = absurd (omega (arith, within))
next_less (x ∷ y ∷ zs) up zero within d = (less_is_before x y).1 up.0
next_less (x ∷ y ∷ zs) up (suc k) within d =
    let e : suc (k + 1) ≡ suc k + 1 = omega arith in
    subst (λ n. is_lt (pair_cmp (get_or (y ∷ zs) k d) (get_or (x ∷ y ∷ zs) n d)) ≡ true) e
    (next_less (y ∷ zs) up.1 k (omega (arith, within)) d)

-- so the answer whether each is less than the next tells whether they ascend
pub ascend_if_each_less : (xs : List Pair) (all : Bool) → IsAllAdjacentAnswer (λ x y b. b ≡ is_lt (pair_cmp x y)) xs all
    → IsTrue all ↔ ArePairsAscending xs
ascend_if_each_less xs true each = (λ t. each_before xs each, λ up. refl)
ascend_if_each_less xs false (k, within, not_less) = (
  λ none. absurd (true≢false (sym none)),
  λ up. absurd (true≢false (sym (next_less xs up k within (pair 0 (left 0 false))) ∙ sym (not_less (pair 0 (left 0 false))))),
)

-- pairs that are sorted, each once, ascend
pub strict_ascend : (xs : List Pair) → IsStrictlySortedBy pair_cmp xs → ArePairsAscending xs
strict_ascend [] sorted = tt
strict_ascend (x ∷ []) sorted = tt
strict_ascend (x ∷ y ∷ zs) sorted = (
  (less_is_before x y).0 (ap is_lt (All-after_first pair_cmp x (y ∷ zs) sorted 0 y (omega arith))),
  strict_ascend (y ∷ zs) (sorted_tail pair_cmp x (y ∷ zs) sorted),
)

-- pairs compare in a total order, which tells apart what `==` does
pair_total : IsTotalOrder pair_cmp
pair_total =
    then_total (on_total (λ (x : Pair). x.a) nat_cmp_total)
    (then_total (on_total (λ (x : Pair). x.b) nat_cmp_total) (on_total (λ (x : Pair). x.r) bool_cmp_total))

results_tied : (x y : Bool) → beq x y ≡ is_eq (bool_cmp x y)
results_tied true true = refl
results_tied true false = refl
results_tied false true = refl
results_tied false false = refl

pair_ties : (x y : Pair) → pair_eq x y ≡ eq_by_cmp pair_cmp x y
pair_ties x y =
    ap₂ (λ a b. a && b) (unsigned_ties x.a y.a)
    (ap₂ (λ a b. a && b) (unsigned_ties x.b y.b) (results_tied x.r y.r) ∙ tied_then (nat_cmp x.b y.b) (bool_cmp x.r y.r))
    ∙ tied_then (nat_cmp x.a y.a) (ordering_then (nat_cmp x.b y.b) (bool_cmp x.r y.r))

pair_laws : IsEquivalence pair_eq
pair_laws = subst IsEquivalence (λ i x y. sym (pair_ties x y) i) (eq_by_cmp_equiv pair_total)

both : (x y : Bool) → (x && y) ≡ true → (x ≡ true) × (y ≡ true)
both true y e = (refl, e)
both false y e = absurd (true≢false (sym e))

same_result : (x y : Bool) → beq x y ≡ true → x ≡ y
same_result true true e = refl
same_result true false e = absurd (true≢false (sym e))
same_result false true e = absurd (true≢false (sym e))
same_result false false e = refl

same_pair : (x y : Pair) → pair_eq x y ≡ true → x ≡ y
same_pair x y e =
    let (first, rest) = both (nat_eq x.a y.a) (nat_eq x.b y.b && beq x.r y.r) e in
    let (second, last) = both (nat_eq x.b y.b) (beq x.r y.r) rest in
    λ i. record {
      a = exact_unsigned_eq x.a y.a first i;
      b = exact_unsigned_eq x.b y.b second i;
      r = same_result x.r y.r last i;
    }

-- leaving out what occurs again keeps the members
module _ {X : Type 0} where
  contains_of : (xs : List X) (x : X) → Member x xs → Contains xs x
  contains_of xs x m = let (i, at) = index_of xs x m in (i, slice_get_within xs i x at, get_or_from_slice_get xs i x x at)

  member_of : (xs : List X) (x : X) → Contains xs x → Member x xs
  member_of xs x (j, within, same) = at_index xs x j (slice_get-get_or xs j x within ∙ ap Some same)

  pub dedup_members : (eq : X → X → Bool) → IsEquivalence eq → ((x y : X) → eq x y ≡ true → x ≡ y) → (xs : List X) (x : X)
      → Member x (dedup eq xs) ↔ Member x xs
  dedup_members eq laws same xs x = (
    λ m. member_of xs x (Contains-from_dedup eq xs x (contains_of (dedup eq xs) x m)),
    λ m. member_of (dedup eq xs) x (Contains-dedup laws same xs x (contains_of xs x m)),
  )

-- pairs that were sorted and then occur once ascend, and they are the pairs that there were
pub deduped : (xs sorted ys : List Pair) → IsPermutation xs sorted → IsSorted pair_cmp sorted
    → IsFiltered (DiffersFromLast pair_eq) [] sorted ys
    → ArePairsAscending ys × ((x : Pair) → Member x ys ↔ Member x xs)
deduped xs sorted ys moved up left =
    let is = dedup_is pair_eq sorted ys left in (
      subst ArePairsAscending (sym is) (strict_ascend (dedup pair_eq sorted) (IsStrictlySortedBy-dedup pair_total pair_ties sorted up)),
      λ x.
          let (kept, all) = dedup_members pair_eq pair_laws same_pair sorted x in
          let (back, there) = same_members xs sorted moved x in
          (λ m. back (kept (subst (Member x) is m)), λ m. subst (Member x) (sym is) (all (there m))),
    )
