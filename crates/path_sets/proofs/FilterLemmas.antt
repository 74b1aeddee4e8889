-- Lists of which some items are kept.
use Rattle.std.proofs.Common.{◌≡◌, ℕ, zero, suc, ◌+◌, ◌<◌, Bool, true, false, List, [], ◌∷◌, ◌++◌, map, filter}
use Rattle.std.proofs.Common.{length, inl, inr, if◌then◌else◌, refl, sym, ap, ◌∙◌, subst, arith, true≢false}
use Rattle.language.specs.Lists.{Member, NoneTwice}
use Rattle.language.proofs.Members.{member_left, member_right, member_append, map_member}
use Rattle.path_sets.specs.Members.{below, each}
use Rattle.std.proofs.lemmas.Bool.{cases_eq}

module _ {A : Type 0} where
  -- what is kept was there and passes
  pub kept_is : (p : A → Bool) (xs : List A) (t : A) → Member t (filter p xs) → Member t xs × (p t ≡ true)
  kept_is p [] t h = elim h [ ]
  kept_is p (x ∷ xs) t h = by (p x) refl h (kept_is p xs t)
    where
      by : (b : Bool) → p x ≡ b → Member t (if b then x ∷ filter p xs else filter p xs)
          → (Member t (filter p xs) → Member t xs × (p t ≡ true))
          → Member t (x ∷ xs) × (p t ≡ true)
      by true e (inl is) rest = (inl is, ap p is ∙ e)
      by true e (inr later) rest = let r = rest later in (inr r.0, r.1)
      by false e later rest = let r = rest later in (inr r.0, r.1)

  pub is_kept : (p : A → Bool) (xs : List A) (t : A) → Member t xs → p t ≡ true → Member t (filter p xs)
  is_kept p [] t h passes = elim h [ ]
  is_kept p (x ∷ xs) t h passes = by (p x) refl h (λ later. is_kept p xs t later passes)
    where
      by : (b : Bool) → p x ≡ b → Member t (x ∷ xs) → (Member t xs → Member t (filter p xs))
          → Member t (if b then x ∷ filter p xs else filter p xs)
      by true e (inl is) rest = inl is
      by true e (inr later) rest = inr (rest later)
      by false e (inl is) rest = absurd (true≢false (sym passes ∙ ap p is ∙ e))
      by false e (inr later) rest = rest later

  -- tests that agree keep the same
  pub same_kept : (p q : A → Bool) (xs : List A) → ((t : A) → Member t xs → p t ≡ q t) → filter p xs ≡ filter q xs
  same_kept p q [] h = refl
  same_kept p q (x ∷ xs) h =
      let rest = same_kept p q xs (λ t m. h t (inr m)) in
      let first = h x (inl refl) in
      λ j. if first j then x ∷ rest j else rest j

  -- nothing occurs twice if it did not
  pub kept_none_twice : (p : A → Bool) (xs : List A) → NoneTwice xs → NoneTwice (filter p xs)
  kept_none_twice p [] h = tt
  kept_none_twice p (x ∷ xs) (once, rest) = by (p x) (kept_none_twice p xs rest)
    where
      by : (b : Bool) → NoneTwice (filter p xs) → NoneTwice (if b then x ∷ filter p xs else filter p xs)
      by true h = (λ m. once (kept_is p xs x m).0, h)
      by false h = h

  -- if one more passes, one more is kept
  pub one_more : (p q : A → Bool) (xs : List A) (x : A) → NoneTwice xs → Member x xs → p x ≡ false → q x ≡ true
      → ((t : A) → (t ≡ x → ⊥) → q t ≡ p t) → length (filter q xs) ≡ length (filter p xs) + 1
  one_more p q [] x once h clear set others = elim h [ ]
  one_more p q (y ∷ ys) x (apart, once) (inl is) clear set others =
      let rest = same_kept q p ys (λ t m. others t (λ same. apart (subst (λ k. Member k ys) (same ∙ is) m))) in
      ap (λ b. length (if b then y ∷ filter q ys else filter q ys)) (ap q (sym is) ∙ set)
      ∙ (let e = ap length rest in omega (arith, e))
      ∙ sym (ap (λ b. length (if b then y ∷ filter p ys else filter p ys) + 1) (ap p (sym is) ∙ clear))
  one_more p q (y ∷ ys) x (apart, once) (inr later) clear set others =
      let e = one_more p q ys x once later clear set others in
      ap (λ b. length (if b then y ∷ filter q ys else filter q ys))
      (others y (λ same. apart (subst (λ k. Member k ys) (sym same) later))) ∙ by (p y) e
    where
      by : (b : Bool) → length (filter q ys) ≡ length (filter p ys) + 1
          → length (if b then y ∷ filter q ys else filter q ys) ≡ length (if b then y ∷ filter p ys else filter p ys) + 1
      by true e = omega (arith, e)
      by false e = e

  -- lists with nothing in common, one after the other
  pub append_none_twice : (xs ys : List A) → NoneTwice xs → NoneTwice ys → ((t : A) → Member t xs → Member t ys → ⊥)
      → NoneTwice (xs ++ ys)
  append_none_twice [] ys hx hy apart = hy
  append_none_twice (x ∷ xs) ys (once, hx) hy apart = (
    λ m. elim (member_append x xs ys m) [ inl own ↦ once own | inr other ↦ apart x (inl refl) other ],
    append_none_twice xs ys hx hy (λ t m. apart t (inr m)),
  )

module _ {A B : Type 0} (f : A → List B) where
  -- what is in the list for one is in that for all
  pub in_each : (xs : List A) (x : A) (b : B) → Member x xs → Member b (f x) → Member b (each f xs)
  unfolding each
  in_each [] x b h m = elim h [ ]
  in_each (y ∷ ys) x b (inl is) m = member_left b (f y) (each f ys) (subst (λ k. Member b (f k)) is m)
  in_each (y ∷ ys) x b (inr later) m = member_right b (f y) (each f ys) (in_each ys x b later m)

  -- and was in that for one
  pub of_each : (xs : List A) (b : B) → Member b (each f xs) → (x : A) × Member x xs × Member b (f x)
  unfolding each
  of_each [] b h = elim h [ ]
  of_each (y ∷ ys) b h = elim (member_append b (f y) (each f ys) h) [
    | inl own ↦ (y, inl refl, own)
    | inr later ↦ let r = of_each ys b later in (r.0, inr r.1, r.2)
  ]

  -- nothing occurs twice if each has nothing twice, and no two have something in common
  pub each_none_twice : (xs : List A) → NoneTwice xs → ((x : A) → NoneTwice (f x))
      → ((x y : A) (b : B) → Member b (f x) → Member b (f y) → x ≡ y)
      → NoneTwice (each f xs)
  unfolding each
  each_none_twice [] h own apart = tt
  each_none_twice (x ∷ xs) (once, h) own apart =
      append_none_twice (f x) (each f xs) (own x) (each_none_twice xs h own apart)
      (λ b m later. let r = of_each xs b later in once (subst (λ k. Member k xs) (sym (apart x r.0 b m r.2)) r.1))

-- images of different items are different
pub map_none_twice : {A B : Type 0} (f : A → B) (xs : List A) → ((x y : A) → Member x xs → Member y xs → f x ≡ f y → x ≡ y)
    → NoneTwice xs
    → NoneTwice (map f xs)
map_none_twice f [] apart h = tt
map_none_twice f (x ∷ xs) apart (once, h) = (
  λ m. let r = map_member f xs (f x) m in once (subst (λ k. Member k xs) (sym (apart x r.0 (inl refl) (inr r.1) r.2)) r.1),
  map_none_twice f xs (λ y z m n. apart y z (inr m) (inr n)) h,
)

-- the numbers below one
pub in_below : (n m : ℕ) → n < m → Member n (below m)
unfolding below
in_below n zero h = absurd (omega (arith, h))
in_below n (suc m) h = elim (cases_eq n m) [ inl is ↦ inl is | inr ne ↦ inr (in_below n m (omega (arith, h, ne))) ]

pub of_below : (n m : ℕ) → Member n (below m) → n < m
unfolding below
of_below n zero h = elim h [ ]
of_below n (suc m) (inl is) = omega (arith, is)
of_below n (suc m) (inr later) = let less = of_below n m later in omega (arith, less)

pub below_none_twice : (m : ℕ) → NoneTwice (below m)
unfolding below
below_none_twice zero = tt
below_none_twice (suc m) = (λ h. let less = of_below m m h in omega (arith, less), below_none_twice m)
