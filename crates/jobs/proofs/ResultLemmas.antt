-- A list whose items come one after the other, and what is pushed for each.
use Rattle.std.proofs.Common.{◌≡◌, inl, inr, ℕ, ◌<◌, ◌≤◌, List, [], ◌∷◌}
use Rattle.std.proofs.Common.{◌++◌, Some, slice_get, length, refl, sym, ap, ◌∙◌, subst, arith, append_assoc, length-append}
use Rattle.std.proofs.lemmas.List.{append-nil}
use Rattle.std.proofs.lemmas.Option.{same_Some, slice_get_within}
use Rattle.post_ledger.proofs.Histories.{at_push_cases, at_seam}

module _ {X : Type 0} where
  -- one more item of a list has come
  pub come : (ys rest left all : List X) (x : X) → ys ++ rest ≡ all → rest ≡ x ∷ left → (ys ++ x ∷ []) ++ left ≡ all
  come ys rest left all x is next = append_assoc ys (x ∷ []) left ∙ (ap (λ l. ys ++ l) (sym next) ∙ is)

  -- it is the one after those that result before
  pub came_at : (ys rest left all : List X) (x : X) (n : ℕ) → ys ++ rest ≡ all → rest ≡ x ∷ left → n ≡ length ys
      → slice_get all n ≡ Some x
  came_at ys rest left all x n is next same =
      subst (λ l. slice_get l n ≡ Some x) (ap (λ l. ys ++ l) (sym next) ∙ is) (at_seam ys x left n (sym same))

  pub came_near : (ys rest left all : List X) (x : X) (n : ℕ) → ys ++ rest ≡ all → rest ≡ x ∷ left → n ≡ length ys
      → n < length all
  came_near ys rest left all x n is next same =
      let whole : length (ys ++ x ∷ left) ≡ length all = ap length (ap (λ l. ys ++ l) (sym next) ∙ is) in
      omega (arith, same, whole, length-append ys (x ∷ left))

  -- there is no other one at its place
  pub came_alone : (ys rest left all : List X) (x y : X) → ys ++ rest ≡ all → rest ≡ x ∷ left
      → slice_get all (length ys) ≡ Some y → x ≡ y
  came_alone ys rest left all x y is next at = same_Some x y (sym (came_at ys rest left all x (length ys) is next refl) ∙ at)

  -- all have come
  pub come_all : (ys rest all : List X) → ys ++ rest ≡ all → length rest ≡ 0 → length ys ≡ length all
  come_all ys rest all is none = omega (arith, ap length is, length-append ys rest, none)

  pub come_same : (ys rest all : List X) → ys ++ rest ≡ all → length rest ≡ 0 → ys ≡ all
  come_same ys [] all is none = sym (append-nil ys) ∙ is
  come_same ys (x ∷ rest) all is none = absurd (omega (arith, none))

-- if R holds for the items of two lists by their places, it holds with one more item of the second, if it
-- holds for that one
pub more_by_place : {X Y : Type 0} (R : ℕ → X → Y → Type 0) (all : List X) (ys : List Y) (y : Y) (n : ℕ) → length ys ≡ n
    → ((a : X) → slice_get all n ≡ Some a → R n a y)
    → ((i : ℕ) (a : X) (b : Y) → slice_get all i ≡ Some a → slice_get ys i ≡ Some b → R i a b)
    → (i : ℕ) (a : X) (b : Y) → slice_get all i ≡ Some a → slice_get (ys ++ y ∷ []) i ≡ Some b → R i a b
more_by_place R all ys y n many new each i a b there here = elim (at_push_cases ys y b i here) [
  | inl before ↦ each i a b there before
  | inr last ↦
      let place : i ≡ n = last.0 ∙ many in
      subst (λ z. R i a z) last.1
      (subst (λ k. R k a y) (sym place) (new a (subst (λ k. slice_get all k ≡ Some a) place there)))
]

-- if it holds for one, it holds for all after it
abbrev pub AllBehind : {X : Type 0} → (X → Type 0) → List X → Type 0
AllBehind {X} is xs = (i k : ℕ) (x y : X) → i ≤ k → slice_get xs i ≡ Some x → slice_get xs k ≡ Some y → is x → is y

-- one more
pub behind_more : {X : Type 0} (is : X → Type 0) (xs : List X) (z : X) → AllBehind is xs
    → ((i : ℕ) (x : X) → slice_get xs i ≡ Some x → is x → is z) → AllBehind is (xs ++ z ∷ [])
behind_more is xs z behind last i k x y near at_i at_k so =
    elim (at_push_cases xs z y k at_k) [
      | inl before ↦ elim (at_push_cases xs z x i at_i) [
        | inl first ↦ behind i k x y near first before so
        | inr one ↦ absurd (let within = slice_get_within xs k y before in omega (arith, one.0, near, within))
      ]
      | inr one ↦ elim (at_push_cases xs z x i at_i) [
        | inl first ↦ subst is one.1 (last i x first so)
        | inr same ↦ subst is one.1 (subst is (sym same.1) so)
      ]
    ]

-- if R holds for each item by its place, it holds with one more item, if it holds for that one
pub each_more : {X : Type 0} (R : ℕ → X → Type 0) (xs new : List X) (z : X) (n : ℕ) → new ≡ xs ++ z ∷ [] → length xs ≡ n
    → R n z → ((i : ℕ) (x : X) → slice_get xs i ≡ Some x → R i x) → (i : ℕ) (x : X) → slice_get new i ≡ Some x → R i x
each_more R xs new z n is many last each i x at =
    elim (at_push_cases xs z x i (subst (λ l. slice_get l i ≡ Some x) is at)) [
      | inl before ↦ each i x before
      | inr one ↦ subst (λ k. R k x) (sym (one.0 ∙ many)) (subst (R n) one.1 last)
    ]
