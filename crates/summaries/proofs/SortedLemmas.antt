-- Lists that are sorted, and the members that they keep.
use Rattle.std.proofs.Common.{◌≡◌, ◌<◌, ◌+◌, ◌↔◌, ℕ, suc, Bool, true, false, not, cond, ◌&&◌, ◌==◌, nat_eq, List, [], ◌∷◌}
use Rattle.std.proofs.Common.{length, get_or, Some, inl, inr, refl, sym, subst, arith, true≢false, Ordering}
use Rattle.std.specs.List.{filter, IsDistinct, AllByRecursion}
use Rattle.std.specs.List.Sorted.{IsPermutation, IsSortedBy, IsSorted}
use Rattle.std.specs.Bool.{beq}
use Rattle.std.specs.Ordering.{is_lt, nat_cmp, bool_cmp, ordering_then}
use Rattle.std.specs.Map.{keys_of, lookup}
use Rattle.groups.specs.declared.values.Values.{Values}
use Rattle.std.proofs.lemmas.List.Sorted.{IsPermutation-sym}
use Rattle.std.proofs.lemmas.Map.Keys.{IsDistinct-head, IsDistinct-tail, IsDistinct-cons, ge_from_not_lt}
use Rattle.std.proofs.lemmas.Map.Views.{exact_unsigned_eq}
use Rattle.std.proofs.lemmas.Bool.Decides.{nat_tests}
use Rattle.language.specs.Lists.{Member}
use Rattle.summaries.specs.declared.pair.Pair.{Pair}
use Rattle.summaries.specs.Tabulated.{IsAscending}
use Rattle.groups.specs.Under.{values_if_any}
use Rattle.path_sets.proofs.PlaceLemmas.{reordered}
use Rattle.path_sets.proofs.FilterLemmas.{kept_is, is_kept}

module _ {X : Type 0} where
  -- the same members in another order
  pub same_members : (xs ys : List X) → IsPermutation xs ys → (x : X) → Member x ys ↔ Member x xs
  same_members xs ys moved x = (reordered ys xs x (IsPermutation-sym xs ys moved), reordered xs ys x moved)

  -- what passes is a member that passes
  pub member_filter : (p : X → Bool) (x : X) (xs : List X) → Member x (filter p xs) ↔ (Member x xs × (p x ≡ true))
  member_filter p x xs = (kept_is p xs x, λ h. is_kept p xs x h.0 h.1)

  all_filter : (P : X → Type 0) (p : X → Bool) (xs : List X) → AllByRecursion P xs → AllByRecursion P (filter p xs)
  all_filter P p [] all = all
  all_filter P p (x ∷ xs) all = by (p x) (all_filter P p xs all.1)
    where
      by : (b : Bool) → AllByRecursion P (filter p xs) → AllByRecursion P (cond b (x ∷ filter p xs) (filter p xs))
      by true rest = (all.0, rest)
      by false rest = rest

  -- and each is there once, if the members are
  pub distinct_filter : (eq : X → X → Bool) (p : X → Bool) (xs : List X) → IsDistinct eq xs → IsDistinct eq (filter p xs)
  distinct_filter eq p [] once = once
  distinct_filter eq p (x ∷ xs) once =
      by (p x) (all_filter (λ y. eq x y ≡ false) p xs (IsDistinct-head eq x xs once))
      (distinct_filter eq p xs (IsDistinct-tail eq x xs once))
    where
      by : (b : Bool) → AllByRecursion (λ y. eq x y ≡ false) (filter p xs) → IsDistinct eq (filter p xs)
          → IsDistinct eq (cond b (x ∷ filter p xs) (filter p xs))
      by true all rest = IsDistinct-cons eq x (filter p xs) all rest
      by false all rest = rest

  -- what follows in a sorted list is sorted
  sorted_tail : (lt : X → X → Bool) (x : X) (xs : List X) → IsSortedBy lt (x ∷ xs) → IsSortedBy lt xs
  sorted_tail lt x xs sorted k d low high =
      let e : suc k + 1 ≡ suc (k + 1) = omega arith in
      subst (λ n. lt (get_or (x ∷ xs) n d) (get_or (x ∷ xs) (suc k) d) ≡ false) e (sorted (suc k) d (omega arith) (omega (arith, high)))

less : (x y : ℕ) → is_lt (nat_cmp y x) ≡ false → nat_eq x y ≡ false → x < y
less x y after apart = let le = ge_from_not_lt y x after in grind (arith, nat_tests)

-- numbers that are sorted and differ ascend
pub numbers_ascend : (xs : List ℕ) → IsSorted nat_cmp xs → IsDistinct nat_eq xs → IsAscending xs
numbers_ascend [] sorted once = tt
numbers_ascend (x ∷ []) sorted once = tt
numbers_ascend (x ∷ y ∷ zs) sorted once = (
  less x y (sorted 0 0 (omega arith) (omega arith)) (IsDistinct-head nat_eq x (y ∷ zs) once).0,
  numbers_ascend (y ∷ zs) (sorted_tail (λ a b. is_lt (nat_cmp a b)) x (y ∷ zs) sorted) (IsDistinct-tail nat_eq x (y ∷ zs) once),
)

-- how pairs compare
abbrev pub pair_cmp : Pair → Pair → Ordering
pair_cmp x y = ordering_then (nat_cmp x.a y.a) (ordering_then (nat_cmp x.b y.b) (bool_cmp x.r y.r))

abbrev pub pair_eq : Pair → Pair → Bool
pair_eq x y = nat_eq x.a y.a && (nat_eq x.b y.b && beq x.r y.r)

-- whether a list has a member
abbrev pub has_any : {X : Type 0} → List X → Bool
has_any xs = not (length xs == 0)

module _ {V A : Type 0} where
  -- a key that has values is among the keys
  key_there : (a : ℕ) (v : V) (es : List (ℕ × Values V A)) → Member v (values_if_any (lookup (nat_eq a) es))
      → Member a (keys_of es)
  key_there a v [] m = absurd m
  key_there a v (e ∷ es) m = by (nat_eq a e.0) refl m (key_there a v es)
    where
      by : (b : Bool) → nat_eq a e.0 ≡ b → Member v (values_if_any (cond b (Some e.1) (lookup (nat_eq a) es)))
          → (Member v (values_if_any (lookup (nat_eq a) es)) → Member a (keys_of es)) → Member a (keys_of (e ∷ es))
      by true f n rest = inl (exact_unsigned_eq a e.0 f)
      by false f n rest = inr (rest n)

  -- the keys that have values
  pub keys_with_values : (a : ℕ) (es : List (ℕ × Values V A))
      → (Member a (keys_of es) × (has_any (values_if_any (lookup (nat_eq a) es)) ≡ true)) ↔
      ((v : V) × Member v (values_if_any (lookup (nat_eq a) es)))
  keys_with_values a es = (
    λ h. some (values_if_any (lookup (nat_eq a) es)) h.1,
    λ h. (key_there a h.0 es h.1, any h.0 (values_if_any (lookup (nat_eq a) es)) h.1),
  )
    where
      some : (vs : List V) → has_any vs ≡ true → (v : V) × Member v vs
      some [] e = absurd (true≢false (sym e))
      some (v ∷ vs) e = (v, inl refl)

      any : (v : V) (vs : List V) → Member v vs → has_any vs ≡ true
      any v [] m = absurd m
      any v (u ∷ us) m = grind (arith, nat_tests)

-- whether numbers are the same does not depend on their order
pub nat_eq_flips : (m n : ℕ) → nat_eq m n ≡ nat_eq n m
nat_eq_flips m n = grind (arith, nat_tests)
