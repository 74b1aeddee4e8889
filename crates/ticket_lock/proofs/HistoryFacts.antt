-- Lemmas on counting and on histories, beside those that the laws of the rules cite (specs/Proved/Facts.antt).
use Rattle.std.proofs.Common.{◌≡◌, ◌≢◌, ◌⊎◌, inl, inr, ℕ, zero, suc, ◌+◌, ◌*◌, ◌<◌, ◌≤◌, eqb, cond, true, false, List, [], ◌∷◌, ◌++◌, map}
use Rattle.std.proofs.Common.{length, refl, sym, ap, ◌∙◌, subst, arith, eq-eqb, ne_eqb, length-append}
use Rattle.std.proofs.lemmas.List.{append-nil}
use mathlib.Core.Option.{some, some-injective, some-ne-none}
use mathlib.Core.Logic.{dite}
use native.Mathlib.Decide.{ℕ_discrete}
use lib.ListN.{get_elem?}
use Rattle.ticket_lock.specs.Count.{times, without, total}
use Rattle.ticket_lock.specs.History.{StartsWith, EndsIn, IsRising}
use Rattle.ticket_lock.specs.Proved.Facts.{EndsIn-at}

module _ {A : Type 0} where
  pub total_few : (f g : A → ℕ) (k : ℕ) (l : List A) → ((j : ℕ) (h : A) → get_elem? l j ≡ some h → f h ≤ g h * k)
      → total f l ≤ total g l * k
  total_few f g k [] few = omega arith
  total_few f g k (x ∷ xs) few = omega (arith, few 0 x refl, total_few f g k xs (λ j h e. few (suc j) h e))

  pub total_plus : (f g : A → ℕ) (l : List A) → total (λ x. f x + g x) l ≡ total f l + total g l
  total_plus f g [] = omega arith
  total_plus f g (x ∷ xs) = omega (arith, total_plus f g xs)

  pub total-snoc : (f : A → ℕ) (l : List A) (x : A) → total f (l ++ x ∷ []) ≡ total f l + f x
  total-snoc f [] x = omega arith
  total-snoc f (y ∷ ys) x = omega (arith, total-snoc f ys x)

  pub total-map : {B : Type 0} (g : B → A) (f : A → ℕ) (l : List B) → total f (map g l) ≡ total (λ b. f (g b)) l
  total-map g f [] = refl
  total-map g f (x ∷ xs) = ap (λ (n : ℕ). f (g x) + n) (total-map g f xs)

  pub total_zero : (f : A → ℕ) (l : List A) → ((j : ℕ) (w : A) → get_elem? l j ≡ some w → f w ≡ 0) → total f l ≡ 0
  total_zero f [] none = refl
  total_zero f (x ∷ xs) none = omega (arith, none 0 x refl, total_zero f xs (λ j w d. none (suc j) w d))

  -- if f is 0 for each element but one, the sum is what it is for that one
  pub total_only : (f : A → ℕ) (l : List A) (i : ℕ) (v : A) → get_elem? l i ≡ some v
      → ((j : ℕ) (w : A) → j ≢ i → get_elem? l j ≡ some w → f w ≡ 0) → total f l ≡ f v
  total_only f [] i v e none = absurd (some-ne-none v (sym e))
  total_only f (x ∷ xs) zero v e none = let same : f x ≡ f v = ap f (some-injective x v e) in
      omega (arith, total_zero f xs (λ j w d. none (suc j) w (λ h. omega arith) d))
  total_only f (x ∷ xs) (suc i) v e none =
      omega (arith, none 0 x (λ h. omega arith) refl, total_only f xs i v e (λ j w ne d. none (suc j) w (λ h. ne (omega arith)) d))

  pub at_longer : (l m : List A) (i : ℕ) (a : A) → get_elem? l i ≡ some a → get_elem? (l ++ m) i ≡ some a
  at_longer [] m i a e = absurd (some-ne-none a (sym e))
  at_longer (x ∷ xs) m zero a e = e
  at_longer (x ∷ xs) m (suc i) a e = at_longer xs m i a e

  pub at_append : (l m : List A) (k : ℕ) (a : A) → get_elem? (l ++ m) k ≡ some a
      → (get_elem? l k ≡ some a) ⊎ ((j : ℕ) × (get_elem? m j ≡ some a))
  at_append [] m k a e = inr (k, e)
  at_append (x ∷ xs) m zero a e = inl e
  at_append (x ∷ xs) m (suc k) a e = at_append xs m k a e

  pub StartsWith-length : (a b : List A) → StartsWith a b → length b ≤ length a
  StartsWith-length a b p = omega (arith, ap length p.1, length-append b p.0)

  no_rest : (a r : List A) → length (a ++ r) ≤ length a → a ++ r ≡ a
  no_rest a [] h = append-nil a
  no_rest a (x ∷ xs) h = absurd (omega (arith, length-append a (x ∷ xs)))

  -- a prefix that is as long is the whole
  pub StartsWith-whole : (a b : List A) → StartsWith a b → length a ≤ length b → a ≡ b
  StartsWith-whole a b p h = p.1 ∙ no_rest b p.0 (subst (λ l. length l ≤ length b) p.1 h)

  -- of two prefixes of one history, the shorter is a prefix of the longer
  pub both_begin : (l a b : List A) → StartsWith l a → StartsWith l b → length b ≤ length a → StartsWith a b
  both_begin l a [] p q h = (a, refl)
  both_begin l [] (y ∷ ys) p q h = absurd (omega arith)
  both_begin [] (x ∷ xs) (y ∷ ys) p q h = let e : [] ≡ x ∷ (xs ++ p.0) = p.1 in cc
  both_begin (z ∷ zs) (x ∷ xs) (y ∷ ys) p q h =
      let e : z ∷ zs ≡ x ∷ (xs ++ p.0) = p.1 in
      let d : z ∷ zs ≡ y ∷ (ys ++ q.0) = q.1 in
      let zx : z ≡ x = cc in let zy : z ≡ y = cc in
      let p' : zs ≡ xs ++ p.0 = cc in let q' : zs ≡ ys ++ q.0 = cc in
      let r = both_begin zs xs ys (p.0, p') (q.0, q') (omega arith) in
      let s : xs ≡ ys ++ r.0 = r.1 in
      let t : x ∷ xs ≡ y ∷ (ys ++ r.0) = cc in
      (r.0, t)

  pub EndsIn-some : (l : List A) → 0 < length l → (x : A) × EndsIn l x
  EndsIn-some [] h = absurd (omega arith)
  EndsIn-some (x ∷ []) h = (x, ([], refl))
  EndsIn-some (x ∷ y ∷ ys) h = let r = EndsIn-some (y ∷ ys) (omega arith) in (r.0, (x ∷ r.1.0, ap (λ m. x ∷ m) r.1.1))

  pub rises_short : (before : A → A → Type 0) (l a : List A) → StartsWith l a → IsRising before l → IsRising before a
  rises_short before l a p up i j x y le at_x at_y =
      let m : (k : ℕ) (z : A) → get_elem? a k ≡ some z → get_elem? l k ≡ some z =
      λ k z e. subst (λ w. get_elem? w k ≡ some z) (sym p.1) (at_longer a p.0 k z e) in
      up i j x y le (m i x at_x) (m j y at_y)

  -- the last value of a prefix comes before the last of the whole
  pub rises_last : (before : A → A → Type 0) (l a : List A) (x y : A) → IsRising before l → StartsWith l a → EndsIn a x → EndsIn l y
      → before x y
  rises_last before l a x y up p ex ey =
      let na : length a ≡ length ex.0 + 1 = omega (arith, ap length ex.1, length-append ex.0 (x ∷ [])) in
      let nl : length l ≡ length ey.0 + 1 = omega (arith, ap length ey.1, length-append ey.0 (y ∷ [])) in
      let short = StartsWith-length l a p in
      let at_x = EndsIn-at a x ex (length ex.0) na in
      up (length ex.0) (length ey.0) x y (omega arith)
      (subst (λ w. get_elem? w (length ex.0) ≡ some x) (sym p.1) (at_longer a p.0 (length ex.0) x at_x))
      (EndsIn-at l y ey (length ey.0) nl)

pub times-snoc : (n : ℕ) (xs : List ℕ) (x : ℕ) → times n (xs ++ x ∷ []) ≡ times n xs + times n (x ∷ [])
times-snoc n [] x = omega arith
times-snoc n (y ∷ ys) x = omega (arith, times-snoc n ys x)

pub times-append : (n : ℕ) (xs ys : List ℕ) → times n (xs ++ ys) ≡ times n xs + times n ys
times-append n [] ys = omega arith
times-append n (x ∷ xs) ys = omega (arith, times-append n xs ys)

pub times-other : (n x : ℕ) → x ≢ n → times n (x ∷ []) ≡ 0
times-other n x ne = rw (ne_eqb x n ne) refl

pub times-without : (n m : ℕ) (xs : List ℕ) → 0 < times n xs → times m (without n xs) + times m (n ∷ []) ≡ times m xs
times-without n m [] h = absurd (omega arith)
times-without n m (x ∷ xs) h = dite (ℕ_discrete x n)
    (λ (e : x ≡ n). let s : eqb x n ≡ true = eq-eqb x n e in
    rw s (subst (λ (k : ℕ). times m xs + (cond (eqb k m) 1 0 + 0) ≡ cond (eqb x m) 1 0 + times m xs) e (omega arith)))
    (λ (ne : x ≢ n). let s : eqb x n ≡ false = ne_eqb x n ne in let h' = rw s at h in
    rw s (omega (arith, times-without n m xs (omega arith))))
