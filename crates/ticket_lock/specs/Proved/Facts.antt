-- Lemmas on counting and on histories, which the laws of the rules cite.
use Rattle.std.proofs.Common.{◌≡◌, ◌≢◌, ◌⊎◌, inl, inr, ℕ, zero, suc, ◌+◌, ◌<◌, ◌≤◌, List, [], ◌∷◌, ◌++◌, map}
use Rattle.std.proofs.Common.{length, set, refl, sym, ap, ◌∙◌, subst, arith, append_assoc, eq-eqb, length-append}
use Rattle.std.proofs.lemmas.List.{append-nil}
use mathlib.Core.Option.{some, some-injective, some-ne-none}
use lib.ListN.{get_elem?}
use Rattle.ticket_lock.specs.Count.{times, total}
use Rattle.ticket_lock.specs.History.{StartsWith, EndsIn, IsRising}

module _ {A : Type 0} where
  pub total_set : (measure : A → ℕ) (items : List A) (place : ℕ) (old new : A) → get_elem? items place ≡ some old
      → total measure (set items place new) + measure old ≡ total measure items + measure new
  total_set measure [] place old new at = absurd (some-ne-none old (sym at))
  total_set measure (first ∷ rest) zero old new at = let same : measure first ≡ measure old = ap measure (some-injective first old at) in
      omega arith
  total_set measure (first ∷ rest) (suc place) old new at = omega (arith, total_set measure rest place old new at)

  pub total_at : (measure : A → ℕ) (items : List A) (place : ℕ) (item : A) → get_elem? items place ≡ some item
      → measure item ≤ total measure items
  total_at measure [] place item at = absurd (some-ne-none item (sym at))
  total_at measure (first ∷ rest) zero item at = let same : measure first ≡ measure item = ap measure (some-injective first item at) in
      omega arith
  total_at measure (first ∷ rest) (suc place) item at = omega (arith, total_at measure rest place item at)

  pub total_two : (measure : A → ℕ) (items : List A) (place other : ℕ) (one two : A) → place ≢ other → get_elem? items place ≡ some one
      → get_elem? items other ≡ some two
      → measure one + measure two ≤ total measure items
  total_two measure [] place other one two ne at at_other = absurd (some-ne-none one (sym at))
  total_two measure (first ∷ rest) zero zero one two ne at at_other = absurd (ne refl)
  total_two measure (first ∷ rest) zero (suc other) one two ne at at_other = let same : measure first ≡ measure one =
      ap measure (some-injective first one at) in omega (arith, total_at measure rest other two at_other)
  total_two measure (first ∷ rest) (suc place) zero one two ne at at_other = let same : measure first ≡ measure two =
      ap measure (some-injective first two at_other) in omega (arith, total_at measure rest place one at)
  total_two measure (first ∷ rest) (suc place) (suc other) one two ne at at_other =
      omega (arith, total_two measure rest place other one two (λ same_place. ne (ap suc same_place)) at at_other)

  pub at-map : {B : Type 0} (image : B → A) (items : List B) (place : ℕ) (item : B) → get_elem? items place ≡ some item
      → get_elem? (map image items) place ≡ some (image item)
  at-map image [] place item at = absurd (some-ne-none item (sym at))
  at-map image (first ∷ rest) zero item at = ap (λ it. some (image it)) (some-injective first item at)
  at-map image (first ∷ rest) (suc place) item at = at-map image rest place item at

  pub map-set : {B : Type 0} (image : B → A) (items : List B) (place : ℕ) (new : B)
      → map image (set items place new) ≡ set (map image items) place (image new)
  map-set image [] place new = refl
  map-set image (first ∷ rest) zero new = refl
  map-set image (first ∷ rest) (suc place) new = ap (λ images. image first ∷ images) (map-set image rest place new)

  pub set_again : (items : List A) (place : ℕ) (item : A) → get_elem? items place ≡ some item → set items place item ≡ items
  set_again [] place item at = refl
  set_again (first ∷ rest) zero item at = ap (λ it. it ∷ rest) (sym (some-injective first item at))
  set_again (first ∷ rest) (suc place) item at = ap (λ others. first ∷ others) (set_again rest place item at)

  pub set_here : (items : List A) (place : ℕ) (item : A) → place < length items → get_elem? (set items place item) place ≡ some item
  set_here [] place item inside = absurd (omega arith)
  set_here (first ∷ rest) zero item inside = refl
  set_here (first ∷ rest) (suc place) item inside = set_here rest place item (omega arith)

  pub set_else : (items : List A) (place other : ℕ) (item : A) → other ≢ place
      → get_elem? (set items place item) other ≡ get_elem? items other
  set_else [] place other item apart = refl
  set_else (first ∷ rest) zero zero item apart = absurd (apart refl)
  set_else (first ∷ rest) zero (suc other) item apart = refl
  set_else (first ∷ rest) (suc place) zero item apart = refl
  set_else (first ∷ rest) (suc place) (suc other) item apart = set_else rest place other item (λ same_place. apart (ap suc same_place))

  pub at_inside : (items : List A) (place : ℕ) (item : A) → get_elem? items place ≡ some item → place < length items
  at_inside [] place item at = absurd (some-ne-none item (sym at))
  at_inside (first ∷ rest) zero item at = omega arith
  at_inside (first ∷ rest) (suc place) item at = omega (arith, at_inside rest place item at)

  -- an element after a write is the one written, or an old one at another place
  pub at_set : (items : List A) (place other : ℕ) (item found : A) → get_elem? (set items place item) other ≡ some found
      → ((other ≡ place) × (item ≡ found)) ⊎ ((other ≢ place) × (get_elem? items other ≡ some found))
  at_set [] place other item found at = absurd (some-ne-none found (sym at))
  at_set (first ∷ rest) zero zero item found at = inl (refl, some-injective item found at)
  at_set (first ∷ rest) zero (suc other) item found at = inr ((λ same_place. omega arith), at)
  at_set (first ∷ rest) (suc place) zero item found at = inr ((λ same_place. omega arith), at)
  at_set (first ∷ rest) (suc place) (suc other) item found at =
      elim (at_set rest place other item found at) [
        | inl case ↦ inl (ap suc case.0, case.1)
        | inr case ↦ (let apart = case.0 in inr ((λ same_place. apart (omega arith)), case.1))
      ]

  pub at_snoc : (items : List A) (item found : A) (other : ℕ) → get_elem? (items ++ item ∷ []) other ≡ some found
      → ((other ≡ length items) × (item ≡ found)) ⊎ (get_elem? items other ≡ some found)
  at_snoc [] item found zero at = inl (refl, some-injective item found at)
  at_snoc [] item found (suc other) at = absurd (some-ne-none found (sym at))
  at_snoc (first ∷ rest) item found zero at = inr at
  at_snoc (first ∷ rest) item found (suc other) at =
      elim (at_snoc rest item found other at) [ inl case ↦ inl (ap suc case.0, case.1) | inr case ↦ inr case ]

  pub at_last : (items : List A) (item : A) → get_elem? (items ++ item ∷ []) (length items) ≡ some item
  at_last [] item = refl
  at_last (first ∷ rest) item = at_last rest item

  pub StartsWith-refl : (log : List A) → StartsWith log log
  StartsWith-refl log = ([], sym (append-nil log))

  pub StartsWith-trans : (log middle seen : List A) → StartsWith log middle → StartsWith middle seen → StartsWith log seen
  StartsWith-trans log middle seen more before =
      (before.0 ++ more.0, more.1 ∙ (ap (λ front. front ++ more.0) before.1 ∙ append_assoc seen before.0 more.0))

  pub StartsWith-more : (log seen : List A) (added : A) → StartsWith log seen → StartsWith (log ++ added ∷ []) seen
  StartsWith-more log seen added begins =
      (begins.0 ++ added ∷ [], ap (λ front. front ++ added ∷ []) begins.1 ∙ append_assoc seen begins.0 (added ∷ []))

  pub EndsIn-at : (log : List A) (last : A) → EndsIn log last → (place : ℕ) → length log ≡ place + 1 → get_elem? log place ≡ some last
  EndsIn-at log last ends place long =
      let front_long : length ends.0 ≡ place = omega (arith, ap length ends.1, length-append ends.0 (last ∷ [])) in
      subst (λ it. get_elem? log it ≡ some last) front_long
      (subst (λ it. get_elem? it (length ends.0) ≡ some last) (sym ends.1) (at_last ends.0 last))

  pub EndsIn-same : (log : List A) (one other : A) → EndsIn log one → EndsIn log other → one ≡ other
  EndsIn-same log one other ends also =
      let at_one = EndsIn-at log one ends (length ends.0) (omega (arith, ap length ends.1, length-append ends.0 (one ∷ []))) in
      let at_other = EndsIn-at log other also (length ends.0) (omega (arith, ap length ends.1, length-append ends.0 (one ∷ []))) in
      some-injective one other (sym at_one ∙ at_other)

  pub EndsIn-more : (log : List A) (added : A) → EndsIn (log ++ added ∷ []) added
  EndsIn-more log added = (log, refl)

  -- a rising history stays so if the value added comes after the last
  pub rises_on : (before : A → A → Type 0) → ((last : A) → before last last)
      → ((last added next : A) → before last added → before added next → before last next)
      → (log : List A) (last added : A) → EndsIn log last → before last added → IsRising before log → IsRising before (log ++ added ∷ [])
  rises_on before same on log last added ends step up earlier later one other order at_a at_b =
      elim (at_snoc log added other later at_b) [
        | inr old_b ↦
            (let short = at_inside log later other old_b in
            elim (at_snoc log added one earlier at_a) [
              | inl case ↦ absurd (omega arith)
              | inr old_a ↦ up earlier later one other order old_a old_b
            ])
        | inl case ↦ elim (at_snoc log added one earlier at_a) [
          | inl both ↦ (let equal : one ≡ other = sym both.1 ∙ case.1 in subst (λ next. before one next) equal (same one))
          | inr old_a ↦ (let short = at_inside log earlier one old_a in
              let front_long : ℕ = length ends.0 in
              let long : length log ≡ front_long + 1 = omega (arith, ap length ends.1, length-append ends.0 (last ∷ [])) in
              let rises = up earlier front_long one last (omega arith) old_a (EndsIn-at log last ends front_long long) in
              on one last other rises (subst (λ next. before last next) case.1 step))
        ]
      ]

pub times-one : (number : ℕ) → times number (number ∷ []) ≡ 1
times-one number = rw (eq-eqb number number refl) refl
