-- Tuples that compare as equal are the same, and tuples that are added.
use Rattle.std.proofs.Common.{◌≡◌, ◌⊎◌, ◌≤◌, ◌<◌, ◌+◌, ℕ, zero, suc, Bool, true, ◌&&◌, nat_eq, List, [], ◌∷◌, ◌++◌, length, take, get_or}
use Rattle.std.proofs.Common.{inl, inr, refl, sym, ◌∙◌, ap, subst, arith, true≢false, append_assoc}
use Rattle.std.specs.Cmp.Lexicographic.{pointwise}
use Rattle.std.proofs.lemmas.Map.Views.{exact_unsigned_eq}
use Rattle.std.proofs.lemmas.Bool.{and_parts}
use Rattle.language.specs.Lists.{Member}
use Rattle.language.proofs.Members.{member_left, member_append}
use Rattle.exploration.specs.declared.tuple.Tuple.{Tuple}
use Rattle.exploration.specs.Met.{Adds}

abbrev tuple_eq : Tuple → Tuple → Bool
tuple_eq x y = nat_eq x.globals y.globals && (nat_eq x.thread y.thread && pointwise nat_eq x.nodes y.nodes)

same_numbers : (xs ys : List ℕ) → pointwise nat_eq xs ys ≡ true → xs ≡ ys
same_numbers [] [] h = refl
same_numbers [] (y ∷ ys) h = absurd (true≢false (sym h))
same_numbers (x ∷ xs) [] h = absurd (true≢false (sym h))
same_numbers (x ∷ xs) (y ∷ ys) h =
    let (first, rest) = and_parts (nat_eq x y) (pointwise nat_eq xs ys) h in
    let e = exact_unsigned_eq x y first in
    let es = same_numbers xs ys rest in
    λ i. e i ∷ es i

pub exact : (x y : Tuple) → tuple_eq x y ≡ true → x ≡ y
exact x y h =
    let (a, rest) = and_parts (nat_eq x.globals y.globals) (nat_eq x.thread y.thread && pointwise nat_eq x.nodes y.nodes) h in
    let (b, c) = and_parts (nat_eq x.thread y.thread) (pointwise nat_eq x.nodes y.nodes) rest in
    let a' = exact_unsigned_eq x.globals y.globals a in
    let b' = exact_unsigned_eq x.thread y.thread b in
    let c' = same_numbers x.nodes y.nodes c in
    λ i. record { globals = a' i; thread = b' i; nodes = c' i }

-- one addition after another
pub adds_then : (P Q R : Tuple → Type 0) (old mid new : List Tuple) → ((t : Tuple) → P t → R t) → ((t : Tuple) → Q t → R t) → Adds P old mid
    → Adds Q mid new → Adds R old new
adds_then P Q R old mid new one two (first, e, ps) (second, e', qs) = (
  first ++ second,
  e' ∙ ap (λ l. l ++ second) e ∙ append_assoc old first second,
  λ t m. elim (member_append t first second m) [ inl here ↦ one t (ps t here) | inr here ↦ two t (qs t here) ],
)

-- what was there is there
pub adds_keep : (P : Tuple → Type 0) (old new : List Tuple) → Adds P old new → (t : Tuple) → Member t old → Member t new
adds_keep P old new (more, e, ps) t m = subst (Member t) (sym e) (member_left t old more m)

pub adds_none : (P : Tuple → Type 0) (old : List Tuple) → Adds P old old
adds_none P old = ([], sym (all old), λ t m. absurd m)
  where
    all : (xs : List Tuple) → xs ++ [] ≡ xs
    all [] = refl
    all (x ∷ xs) = ap (λ l. x ∷ l) (all xs)

module _ {A : Type 0} where
  -- what is read is a member
  pub member_read : (xs : List A) (i : ℕ) (d : A) → i < length xs → Member (get_or xs i d) xs
  member_read [] i d small = absurd (omega (arith, small))
  member_read (x ∷ xs) zero d small = inl refl
  member_read (x ∷ xs) (suc i) d small = inr (member_read xs i d (omega (arith, small)))

  -- one more of the first ones
  pub member_take : (xs : List A) (i : ℕ) (d e : A) → i < length xs → Member e (take (i + 1) xs)
      → Member e (take i xs) ⊎ (e ≡ get_or xs i d)
  member_take xs i d e small m = by xs i small (subst (λ k. Member e (take k xs)) (let k : i + 1 ≡ suc i = omega arith in k) m)
    where
      by : (xs : List A) (i : ℕ) → i < length xs → Member e (take (suc i) xs) → Member e (take i xs) ⊎ (e ≡ get_or xs i d)
      by [] i small m = absurd (omega (arith, small))
      by (x ∷ xs) zero small (inl is) = inr is
      by (x ∷ xs) zero small (inr none) = absurd none
      by (x ∷ xs) (suc i) small (inl is) = inl (inl is)
      by (x ∷ xs) (suc i) small (inr m) = elim (by xs i (omega (arith, small)) m) [ inl m ↦ inl (inr m) | inr is ↦ inr is ]

  -- all of a list are among the first ones, if these are as many
  pub member_all : (xs : List A) (i : ℕ) (e : A) → length xs ≤ i → Member e xs → Member e (take i xs)
  member_all [] i e few m = absurd m
  member_all (x ∷ xs) zero e few m = absurd (omega (arith, few))
  member_all (x ∷ xs) (suc i) e few (inl is) = inl is
  member_all (x ∷ xs) (suc i) e few (inr m) = inr (member_all xs i e (omega (arith, few)) m)
