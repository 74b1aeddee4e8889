-- What is found in lists, or put into them, by a test.
use Rattle.std.proofs.Common.{◌≡◌, ◌<◌, ℕ, zero, suc, Bool, true, false, List, [], ◌∷◌, inl, inr, refl, sym, subst, ◌++◌, true≢false}
use Rattle.std.proofs.Common.{length}
use Rattle.std.proofs.Common.{get_or, arith}
use Rattle.std.proofs.lemmas.Bool.{or_cases}
use Rattle.std.specs.Prelude.{if◌then◌else◌}
use Rattle.std.specs.List.{list_any}
use Rattle.language.specs.Lists.{Member}
use Rattle.language.proofs.Members.{member_right}

-- what stands at a place is a member
pub place_member : {A : Type 0} (xs : List A) (i : ℕ) (d : A) → i < length xs → Member (get_or xs i d) xs
place_member [] i d small = absurd (omega (arith, small))
place_member (x ∷ xs) zero d small = inl refl
place_member (x ∷ xs) (suc i) d small = inr (place_member xs i d (omega (arith, small)))

module _ {A : Type 0} (eq : A → A → Bool) where
  -- where items that compare as equal are the same, one that is like one of a list is a member
  pub member_by : ((x y : A) → eq x y ≡ true → x ≡ y) → (x : A) (ys : List A) → list_any (eq x) ys ≡ true → Member x ys
  member_by same x [] h = absurd (true≢false (sym h))
  member_by same x (y ∷ ys) h =
      elim (or_cases (eq x y) (list_any (eq x) ys) h) [ inl is ↦ inl (same x y is) | inr more ↦ inr (member_by same x ys more) ]

  -- what is put in if nothing like it is there is a member then
  pub member_in : ((x y : A) → eq x y ≡ true → x ≡ y) → (x : A) (old new : List A)
      → new ≡ (if list_any (eq x) old then old else old ++ x ∷ []) → Member x new
  member_in same x old new h = by (list_any (eq x) old) refl h
    where
      by : (b : Bool) → list_any (eq x) old ≡ b → new ≡ (if b then old else old ++ x ∷ []) → Member x new
      by true e is = subst (Member x) (sym is) (member_by same x old e)
      by false e is = subst (Member x) (sym is) (member_right x old (x ∷ []) (inl refl))
