-- What is pushed for one number after the other.
use Rattle.std.proofs.Common.{◌≡◌, ℕ, zero, suc, ◌+◌, ◌≤◌, List, [], ◌∷◌, ◌++◌, map, refl, sym, ◌∙◌, ap, ap₂}
use Rattle.std.proofs.Common.{arith, append_assoc, append-nil, drop, get_or, length, ◌<◌}
use Rattle.std.specs.Prelude.{Result, Ok, Err, IfOk, IsOkAnd}
use Rattle.std.proofs.lemmas.List.{map-append, drop_more, drop_all}
use Rattle.language.specs.Sequential.{numbers}

pub numbers_last : (start k : ℕ) → numbers start (suc k) ≡ numbers start k ++ (start + k) ∷ []
numbers_last start zero = ap (λ n. n ∷ []) (let e : start ≡ start + 0 = omega arith in e)
numbers_last start (suc k) =
    ap (λ ns. start ∷ ns) (numbers_last (suc start) k
    ∙ ap (λ n. numbers (suc start) k ++ n ∷ []) (let e : suc start + k ≡ start + suc k = omega arith in e))

pub numbers_next : (start k : ℕ) → numbers start (k + 1) ≡ numbers start k ++ (start + k) ∷ []
numbers_next start k = ap (numbers start) (let e : k + 1 ≡ suc k = omega arith in e) ∙ numbers_last start k

-- a value that could be made is put behind others
pub put_is : {X Y E : Type 0} (view : X → Y) (r : Result X E) (xs ys : List X) (y : Y) → IsOkAnd r (λ v. ys ≡ xs ++ v ∷ [])
    → IfOk r (λ v. view v ≡ y) → (x : X) × (ys ≡ xs ++ x ∷ []) × (view x ≡ y)
put_is view (Ok x) xs ys y put seen = (x, put, seen)
put_is view (Err e) xs ys y put seen = absurd put

-- one value for each of a list, and one for each number
pub each_number : {A B D : Type 0} (d : D) (f : A → B) (xs : List A) (start : ℕ)
    → map (λ n. d) (numbers start (length xs)) ≡ map (λ y. d) (map f xs)
each_number d f [] start = refl
each_number d f (x ∷ xs) start = ap (λ l. d ∷ l) (each_number d f xs (suc start))

-- one more is pushed
pub pushed : {A B : Type 0} (view : A → B) (f : ℕ → B) (old : List B) (items : List A) (item : A) (k : ℕ)
    → map view items ≡ old ++ map f (numbers 0 k) → view item ≡ f k
    → map view (items ++ item ∷ []) ≡ old ++ map f (numbers 0 (k + 1))
pushed view f old items item k e i =
    map-append view items (item ∷ [])
    ∙ (ap₂ (λ xs x. xs ++ x ∷ []) e i
    ∙ (append_assoc old (map f (numbers 0 k)) (f k ∷ [])
    ∙ ap (λ ys. old ++ ys) (sym (map-append f (numbers 0 k) (k ∷ []))
    ∙ ap (map f) (ap (λ n. numbers 0 k ++ n ∷ []) (let z : k ≡ 0 + k = omega arith in z) ∙ (sym (numbers_last 0 k)
    ∙ ap (numbers 0) (let s : suc k ≡ k + 1 = omega arith in s))))))

-- one more is pushed, which is seen of something that is known
pub pushed_as : {A B D : Type 0} (view : A → B) (f : D → ℕ → B) (d d' : D) (old : List B) (items now : List A) (item : A) (k : ℕ)
    → map view items ≡ old ++ map (f d) (numbers 0 k) → now ≡ items ++ item ∷ [] → view item ≡ f d' k → d' ≡ d
    → map view now ≡ old ++ map (f d) (numbers 0 (k + 1))
pushed_as view f d d' old items now item k e is seen same =
    ap (map view) is ∙ pushed view (f d) old items item k e (seen ∙ ap (λ x. f x k) same)

-- all rounds are done
pub over_rounds : {B : Type 0} (f : ℕ → B) (old now : List B) (k n last : ℕ) → now ≡ old ++ map f (numbers 0 k) → n ≤ k
    → k ≤ n
    → n ≡ suc last → now ≡ old ++ map f (numbers 0 (suc last))
over_rounds f old now k n last e a b c = e ∙ ap (λ m. old ++ map f (numbers 0 m)) (let d : k ≡ suc last = omega (arith, a, b, c) in d)

module _ {A B C D : Type 0} (view : A → C) (f : D → C) (seen : B → D) where
  -- one more of a list is put through a function and pushed
  pub one_through : (items : List A) (item : A) (ss : List B) (i : ℕ) (s : B) (whole : List C) → i < length ss → s ≡ get_or ss i s
      → view item ≡ f (seen s) → map view items ++ map f (map seen (drop i ss)) ≡ whole
      → map view (items ++ item ∷ []) ++ map f (map seen (drop (i + 1) ss)) ≡ whole
  one_through items item ss i s whole lt is e so =
      let others = map f (map seen (drop (i + 1) ss)) in
      ap (λ xs. xs ++ others) (map-append view items (item ∷ []))
      ∙ (append_assoc (map view items) (view item ∷ []) others
      ∙ (ap (λ x. map view items ++ x ∷ others) e
      ∙ (ap (λ l. map view items ++ map f (map seen l)) (sym (drop_more ss i s lt ∙ ap (λ y. y ∷ drop (i + 1) ss) (sym is)))
      ∙ so)))

  -- all of a list are put through a function and pushed
  pub all_through : (items : List A) (ss : List B) (i : ℕ) (whole : List C) → length ss ≤ i
      → map view items ++ map f (map seen (drop i ss)) ≡ whole → map view items ≡ whole
  all_through items ss i whole le so =
      sym (append-nil (map view items)) ∙ (ap (λ l. map view items ++ map f (map seen l)) (sym (drop_all i ss le)) ∙ so)

module _ {A B C : Type 0} (view : A → C) (seen : B → C) where
  -- one more of a list is pushed as it is seen
  pub one_seen : (items : List A) (item : A) (ss : List B) (i : ℕ) (s : B) (whole : List C) → i < length ss → s ≡ get_or ss i s
      → view item ≡ seen s → map view items ++ map seen (drop i ss) ≡ whole
      → map view (items ++ item ∷ []) ++ map seen (drop (i + 1) ss) ≡ whole
  one_seen items item ss i s whole lt is e so =
      let others = map seen (drop (i + 1) ss) in
      ap (λ xs. xs ++ others) (map-append view items (item ∷ []))
      ∙ (append_assoc (map view items) (view item ∷ []) others
      ∙ (ap (λ x. map view items ++ x ∷ others) e
      ∙ (ap (λ l. map view items ++ map seen l) (sym (drop_more ss i s lt ∙ ap (λ y. y ∷ drop (i + 1) ss) (sym is))) ∙ so)))

  -- all of a list are pushed
  pub all_seen : (items : List A) (ss : List B) (i : ℕ) (whole : List C) → length ss ≤ i
      → map view items ++ map seen (drop i ss) ≡ whole → map view items ≡ whole
  all_seen items ss i whole le so =
      sym (append-nil (map view items)) ∙ (ap (λ l. map view items ++ map seen l) (sym (drop_all i ss le)) ∙ so)
