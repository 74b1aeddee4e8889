-- How a history grows by one event.
use Rattle.std.proofs.Common.{◌≡◌, ℕ, zero, suc, ◌+◌, ◌<◌, ◌≤◌, List, [], ◌∷◌, ◌++◌, ◌⊎◌, Some, length, take, slice_get, refl, sym, ◌∙◌, ap}
use Rattle.std.proofs.Common.{Option, subst, inl, inr, arith, add-one, drop, get_or, length-append}
use Rattle.std.proofs.Math.Seq.{drop-cons}
use Rattle.std.proofs.lemmas.Bool.{cases_eq}
use Rattle.std.specs.Iterator.{YieldsFirst}
use Rattle.std.proofs.lemmas.List.{drop_more, take-append-le, take_at, length-take}
use Rattle.std.proofs.lemmas.Option.{get_or_from_slice_get, slice_get_within, same_Some}
use Rattle.post_ledger.specs.declared.event.Event.{Event}
use Rattle.post_ledger.specs.declared.event.Event.TheVariants.{Post, Take, Done}
use Rattle.post_ledger.specs.History.{posts, takes, dones, MayFollow, IsLegal}

pub posts-append : {M : Type 0} (a b : List (Event M)) → posts (a ++ b) ≡ posts a ++ posts b
posts-append [] b = refl
posts-append (Post s m ∷ a) b = ap (λ l. (s, m) ∷ l) (posts-append a b)
posts-append (Take s m ∷ a) b = posts-append a b
posts-append (Done t ∷ a) b = posts-append a b

pub takes-append : {M : Type 0} (a b : List (Event M)) → takes (a ++ b) ≡ takes a ++ takes b
takes-append [] b = refl
takes-append (Post s m ∷ a) b = takes-append a b
takes-append (Take s m ∷ a) b = ap (λ l. (s, m) ∷ l) (takes-append a b)
takes-append (Done t ∷ a) b = takes-append a b

pub dones-append : {M : Type 0} (a b : List (Event M)) → dones (a ++ b) ≡ dones a ++ dones b
dones-append [] b = refl
dones-append (Post s m ∷ a) b = dones-append a b
dones-append (Take s m ∷ a) b = dones-append a b
dones-append (Done t ∷ a) b = ap (λ l. t ∷ l) (dones-append a b)

-- an element of a list with one more appended is one of the list, or the appended one
pub at_push_cases : {X : Type 0} (xs : List X) (y x : X) (i : ℕ) → slice_get (xs ++ y ∷ []) i ≡ Some x
    → (slice_get xs i ≡ Some x) ⊎ ((i ≡ length xs) × (y ≡ x))
at_push_cases [] y x zero e = inr (refl, cc)
at_push_cases [] y x (suc i) e = cc
at_push_cases (z ∷ xs) y x zero e = inl e
at_push_cases (z ∷ xs) y x (suc i) e = elim (at_push_cases xs y x i e) [ inl h ↦ inl h | inr h ↦ inr (ap suc h.0, h.1) ]

-- a legal history with one more event that may follow is legal
pub legal_push : {M : Type 0} (h : List (Event M)) (e : Event M) → IsLegal h → MayFollow h e → IsLegal (h ++ e ∷ [])
legal_push h e legal follows i x at =
    elim (at_push_cases h e x i at) [
      | inl inside ↦
          let short : i ≤ length h = omega (arith, slice_get_within h i x inside) in
          subst (λ before. MayFollow before x) (sym (take-append-le i h (e ∷ []) short)) (legal i x inside)
      | inr last ↦
          subst (λ before. MayFollow before x) (sym (take_at h (e ∷ []) i (sym last.0))) (subst (MayFollow h) last.1 follows)
    ]

-- a list around one of its elements
pub split_at_element : {X : Type 0} (xs : List X) (i : ℕ) (x : X) → slice_get xs i ≡ Some x
    → (ys : List X) × (xs ≡ take i xs ++ x ∷ ys) × (take (suc i) xs ≡ take i xs ++ x ∷ [])
split_at_element [] i x e = cc
split_at_element (y ∷ xs) zero x e = (xs, cc, cc)
split_at_element (y ∷ xs) (suc i) x e =
    let (ys, all, more) = split_at_element xs i x e in
    (ys, ap (λ l. y ∷ l) all, ap (λ l. y ∷ l) more)

seam : {X : Type 0} (xs : List X) (x : X) (ys : List X) → slice_get (xs ++ x ∷ ys) (length xs) ≡ Some x
seam [] x ys = refl
seam (z ∷ xs) x ys = seam xs x ys

-- the element after n others
pub at_seam : {X : Type 0} (xs : List X) (x : X) (ys : List X) (n : ℕ) → length xs ≡ n → slice_get (xs ++ x ∷ ys) n ≡ Some x
at_seam xs x ys n e = subst (λ k. slice_get (xs ++ x ∷ ys) k ≡ Some x) e (seam xs x ys)

-- there are no more Takes than events
pub takes_few : {M : Type 0} (h : List (Event M)) → length (takes h) ≤ length h
takes_few [] = omega arith
takes_few (Post s m ∷ h) = omega (arith, takes_few h)
takes_few (Take s m ∷ h) = omega (arith, takes_few h)
takes_few (Done t ∷ h) = omega (arith, takes_few h)

-- one event further there are its Takes more
pub takes_more : {M : Type 0} (h : List (Event M)) (i : ℕ) (e : Event M) → slice_get h i ≡ Some e
    → length (takes (take (i + 1) h)) ≡ length (takes (take i h)) + length (takes (e ∷ []))
takes_more h i e at =
    let parts = split_at_element h i e at in
    ap (λ k. length (takes (take k h))) (add-one i) ∙ ap (λ l. length (takes l)) parts.2 ∙ ap length (takes-append (take i h) (e ∷ []))
    ∙ length-append (takes (take i h)) (takes (e ∷ []))

-- the Takes so far are no more than the events so far
pub takes_so_far : {M : Type 0} (h : List (Event M)) (i : ℕ) → length (takes (take i h)) ≤ i
takes_so_far h i = omega (arith, takes_few (take i h), length-take i h)

-- what may follow at each place up to i, and at i, may follow at each place up to i + 1
pub each_more : {M : Type 0} (h : List (Event M)) (i : ℕ) (e : Event M) → slice_get h i ≡ Some e → MayFollow (take i h) e
    → ((j : ℕ) (x : Event M) → j < i → slice_get h j ≡ Some x → MayFollow (take j h) x) → (j : ℕ) (x : Event M) → j < i + 1
    → slice_get h j ≡ Some x → MayFollow (take j h) x
each_more h i e at here below j x short there =
    elim (cases_eq j i) [
      | inl same ↦
          let one : Some e ≡ Some x = sym at ∙ ap (slice_get h) (sym same) ∙ there in
          subst (λ k. MayFollow (take k h) x) (sym same) (subst (MayFollow (take i h)) (same_Some e x one) here)
      | inr other ↦ let less : j < i = omega arith in below j x less there
    ]

-- the element of a list at a place inside it
pub element_at : {X : Type 0} (xs : List X) (i : ℕ) → i < length xs → (x : X) × (slice_get xs i ≡ Some x)
element_at [] i h = absurd (omega arith)
element_at (x ∷ xs) zero h = (x, refl)
element_at (x ∷ xs) (suc i) h = element_at xs i (omega arith)

-- the element at a place is the first of those from there on
pub first_left : {X : Type 0} (xs : List X) (i : ℕ) (first : Option X) → i < length xs → first ≡ slice_get xs i
    → YieldsFirst (λ l. l) (drop i xs) first (drop (i + 1) xs)
first_left xs i first within is =
    let (x, at) = element_at xs i within in
    subst (λ o. YieldsFirst (λ l. l) (drop i xs) o (drop (i + 1) xs)) (sym (is ∙ at))
    (drop_more xs i x within ∙ ap (λ y. y ∷ drop (i + 1) xs) (get_or_from_slice_get xs i x x at))

-- what is left of a history from an event on is the event and what is left after it
pub left_from : {M : Type 0} (h : List (Event M)) (i : ℕ) (e f : Event M) → i < length h → e ≡ get_or h i e → e ≡ f
    → drop i h ≡ f ∷ drop (i + 1) h
left_from h i e f within is same =
    let next : suc i ≡ i + 1 = omega arith in
    drop-cons h i e within ∙ ap (λ x. x ∷ drop (suc i) h) (sym is ∙ same) ∙ ap (λ k. f ∷ drop k h) next
