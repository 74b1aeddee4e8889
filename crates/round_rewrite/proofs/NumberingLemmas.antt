-- Where the printed names are among the rewritten program's globals, formals, locals and temporaries.
use Rattle.std.proofs.Common.{◌≡◌, ℕ, zero, suc, ◌+◌, ◌*◌, ◌<◌, ◌≤◌, true, false, cond, List, [], ◌∷◌}
use Rattle.std.proofs.Common.{◌++◌, length, map, refl, ◌∙◌, ap, ap₂, arith, length-append}
use Rattle.language.specs.Tree.{Name}
use Rattle.language.specs.Rest.{same_text}
use Rattle.language.specs.Resolve.{number_of, is_declared}
use Rattle.round_rewrite.specs.Table.{Naming, numbers, copied}
use Rattle.checked.specs.Rewritable.{has_double, AreFree}
use Rattle.language.proofs.TestLemmas.{at_test}
use Rattle.language.proofs.Names.{declared_first, declared_second, number_first, number_second}
use Rattle.round_rewrite.proofs.SpellingLemmas.{same_text_true, free_differs}
use Rattle.round_rewrite.specs.Limits.{most_rounds}

pub number_right : (t : List ℕ) (xs ys : List Name) → is_declared t xs ≡ false
    → (number_of t (xs ++ ys) ≡ length xs + number_of t ys) × (is_declared t (xs ++ ys) ≡ is_declared t ys)
number_right t xs ys h = (number_second t xs ys h, declared_second t xs ys h)

pub number_left : (t : List ℕ) (xs ys : List Name) → is_declared t xs ≡ true
    → (number_of t (xs ++ ys) ≡ number_of t xs) × (is_declared t (xs ++ ys) ≡ true)
number_left t xs ys h = (number_first t xs ys h, declared_first t xs ys h)

-- a text that has two underscores is not a declared name
pub not_free : (a s : List ℕ) (xs : List Name) → AreFree xs → is_declared (a ++ 95 ∷ 95 ∷ s) xs ≡ false
not_free a s [] h = refl
not_free a s (x ∷ xs) h = ap (λ c. cond c true (is_declared (a ++ 95 ∷ 95 ∷ s) xs)) (free_differs x.text a s h.0)
    ∙ not_free a s xs h.1

-- a declared name is one of the names
pub free_name : (t : List ℕ) (xs : List Name) → AreFree xs → is_declared t xs ≡ true → has_double t ≡ false
free_name t [] h d = cc
free_name t (x ∷ xs) h d =
    at_test (λ c. cond c true (is_declared t xs) ≡ true → has_double t ≡ false) (same_text t x.text)
    (λ e k. ap has_double (same_text_true t x.text e) ∙ h.0) (λ e k. free_name t xs h.1 k) d

-- names written with a round: copies, or guesses
pub record Spelled (f : ℕ → Name → Name) : Type 0 where
  pub alike : (k : ℕ) (x y : Name) → same_text (f k x).text (f k y).text ≡ same_text x.text y.text
  pub unlike : (k j : ℕ) (x y : Name) → k < most_rounds → j < most_rounds → (k ≡ j → ⊥)
      → same_text (f k x).text (f j y).text ≡ false

module _ (w : Naming Name Name Name Name) (last : ℕ) (f : ℕ → Name → Name) (xs : List Name) where
  abbrev rows : ℕ → ℕ → List Name
  rows j m = copied w last f xs (numbers j m)

  pub length-rows : (j m : ℕ) → length (rows j m) ≡ m * length xs
  length-rows j zero = omega arith
  length-rows j (suc m) =
      length-append (map (f j) xs) (rows (suc j) m)
      ∙ (let a : length (map (f j) xs) ≡ length xs = Rattle.std.proofs.lemmas.List.length-map xs (f j) in
      let b : length (rows (suc j) m) ≡ m * length xs = length-rows (suc j) m in omega arith)

  pub none_in_row : (t : List ℕ) (j : ℕ) (ys : List Name) → ((y : Name) → same_text t (f j y).text ≡ false)
      → is_declared t (map (f j) ys) ≡ false
  none_in_row t j [] h = refl
  none_in_row t j (y ∷ ys) h = ap (λ c. cond c true (is_declared t (map (f j) ys))) (h y) ∙ none_in_row t j ys h

  pub none_in_rows : (t : List ℕ) (j m : ℕ) → ((i : ℕ) (y : Name) → i < j + m → same_text t (f i y).text ≡ false)
      → is_declared t (rows j m) ≡ false
  none_in_rows t j zero h = refl
  none_in_rows t j (suc m) h =
      (number_right t (map (f j) xs) (rows (suc j) m) (none_in_row t j xs (λ y. h j y (omega arith)))).1
      ∙ none_in_rows t (suc j) m (λ i y lt. h i y (omega arith))

  in_row : Spelled f → (x : Name) (k : ℕ) (ys : List Name)
      → (is_declared (f k x).text (map (f k) ys) ≡ is_declared x.text ys)
      × (number_of (f k x).text (map (f k) ys) ≡ number_of x.text ys)
  in_row sp x k [] = (refl, refl)
  in_row sp x k (y ∷ ys) =
      let r = in_row sp x k ys in
      (ap₂ (λ c d. cond c true d) (sp.alike k x y) r.0, ap₂ (λ c d. cond c 0 (suc d)) (sp.alike k x y) r.1)

  -- the name of round j + d is d rows on
  pub in_rows : Spelled f → (x : Name) → is_declared x.text xs ≡ true → (d j m : ℕ) → d < m → j + m ≤ most_rounds
      → (is_declared (f (j + d) x).text (rows j m) ≡ true)
      × (number_of (f (j + d) x).text (rows j m) ≡ d * length xs + number_of x.text xs)
  in_rows sp x h d j zero lt all = absurd (omega arith)
  in_rows sp x h zero j (suc m) lt all =
      let e : j + zero ≡ j = omega arith in
      let r = in_row sp x j xs in
      let l = number_left (f j x).text (map (f j) xs) (rows (suc j) m) (r.0 ∙ h) in (
        ap (λ k. is_declared (f k x).text (rows j (suc m))) e ∙ l.1,
        ap (λ k. number_of (f k x).text (rows j (suc m))) e ∙ (l.0
            ∙ (r.1 ∙ (let z : number_of x.text xs ≡ zero * length xs + number_of x.text xs = omega arith in z))),
      )
  in_rows sp x h (suc d) j (suc m) lt all =
      let e : j + suc d ≡ suc j + d = omega arith in
      let none : is_declared (f (j + suc d) x).text (map (f j) xs) ≡ false =
      none_in_row (f (j + suc d) x).text j xs (λ y. sp.unlike (j + suc d) j x y (omega arith) (omega arith) (λ q. omega arith)) in
      let r = number_right (f (j + suc d) x).text (map (f j) xs) (rows (suc j) m) none in
      let ih = in_rows sp x h d (suc j) m (omega arith) (omega arith) in
      let a : length (map (f j) xs) ≡ length xs = Rattle.std.proofs.lemmas.List.length-map xs (f j) in (
        r.1 ∙ (ap (λ k. is_declared (f k x).text (rows (suc j) m)) e ∙ ih.0),
        r.0 ∙ (ap (λ k. length (map (f j) xs) + number_of (f k x).text (rows (suc j) m)) e
            ∙ (ap (λ z. length (map (f j) xs) + z) ih.1
            ∙ (let z : length (map (f j) xs) + (d * length xs + number_of x.text xs) ≡ suc d * length xs + number_of x.text xs =
            omega arith in z))),
      )
