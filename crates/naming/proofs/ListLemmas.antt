-- The endings of sets, and items that are taken one after another.
use Rattle.std.proofs.Common.{◌≡◌, ◌⊎◌, ◌<◌, ◌+◌, ◌++◌, ℕ, zero, suc, List, [], ◌∷◌, Some, get_or, take, length}
use Rattle.std.proofs.Common.{slice_get, inl, inr}
use Rattle.std.proofs.Common.{refl, sym, ap, ap₂, ◌∙◌, subst, arith}
use Rattle.std.proofs.lemmas.List.{length-append}
use Rattle.std.proofs.lemmas.Option.{same_Some}
use Rattle.language.specs.Lists.{Member}
use Rattle.language.proofs.Members.{member_append, member_left, member_right}
use Rattle.stack_sets.specs.Turns.{ending}
use Rattle.stack_sets.specs.declared.turn.Ending as sets
use Rattle.stack_sets.proofs.NodeLemmas.{last_is}
use Rattle.naming.specs.declared.part.Part.{Part}
use Rattle.naming.specs.declared.part.Part.TheVariants.{Call, Ending}
use Rattle.naming.specs.Names.{IsEndingAt, AreListed, IsListed, endings_in}
use Rattle.naming.proofs.PlaceLemmas.{get_left, get_last}

module _ {A : Type 0} where
  next_taken : (xs : List A) (i : ℕ) (d : A) → i < length xs → take (suc i) xs ≡ take i xs ++ get_or xs i d ∷ []
  next_taken [] i d small = absurd (omega (arith, small))
  next_taken (x ∷ xs) zero d small = refl
  next_taken (x ∷ xs) (suc i) d small = ap (λ l. x ∷ l) (next_taken xs i d (omega (arith, small)))

  -- one more
  pub take_one : (xs : List A) (i : ℕ) (d : A) → i < length xs → take (i + 1) xs ≡ take i xs ++ get_or xs i d ∷ []
  take_one xs i d small =
      let next : i + 1 ≡ suc i = omega arith in
      ap (λ j. take j xs) next ∙ next_taken xs i d small

  length_taken : (xs : List A) (i : ℕ) → i < length xs → length (take i xs) ≡ i
  length_taken [] i small = absurd (omega (arith, small))
  length_taken (x ∷ xs) zero small = refl
  length_taken (x ∷ xs) (suc i) small = ap suc (length_taken xs i (omega (arith, small)))

module _ (names : List ℕ) (xs : List Part) (part : Part) where
  at_either : (h m : ℕ) → IsEndingAt names (xs ++ part ∷ []) h m
      → IsEndingAt names xs h m ⊎ ((part ≡ Ending h) × (slice_get names (length xs) ≡ Some m))
  at_either h m (i, at, is) =
      elim (get_last xs part i (Ending h) at) [
        | inl was ↦ inl (i, was, is)
        | inr (e, same) ↦ inr (same, subst (λ j. slice_get names j ≡ Some m) e is)
      ]

  at_was : (h m : ℕ) → IsEndingAt names xs h m → IsEndingAt names (xs ++ part ∷ []) h m
  at_was h m (i, at, is) = (i, get_left xs (part ∷ []) i (Ending h) at, is)

-- with one set more
listed : (names : List ℕ) (xs : List Part) (part : Part) (n : ℕ) (old new : List sets.Ending) → slice_get names (length xs) ≡ Some n
    → AreListed names xs old → IsListed n part old new → AreListed names (xs ++ part ∷ []) new
listed names xs (Call entry) n old new name all is h m = (
  λ member. at_was names xs (Call entry) h m ((all h m).0 (subst (Member (ending h m)) is member)),
  λ at.
      elim (at_either names xs (Call entry) h m at) [
        | inl was ↦ subst (Member (ending h m)) (sym is) ((all h m).1 was)
        | inr (same, e) ↦ absurd (cc)
      ],
)
listed names xs (Ending g) n old new name all is h m = (
  λ member.
      elim (member_append (ending h m) old (ending g n ∷ []) (subst (Member (ending h m)) is member)) [
        | inl was ↦ at_was names xs (Ending g) h m ((all h m).0 was)
        | inr (inl same) ↦
            let same_g : g ≡ h = sym (ap (λ (e : sets.Ending). e.globals) same) in
            let same_m : n ≡ m = sym (ap (λ (e : sets.Ending). e.node) same) in
            (length xs, last_is xs (Ending g) ∙ ap (λ z. Some (Ending z)) same_g, name ∙ ap Some same_m)
        | inr (inr none) ↦ absurd none
      ],
  λ at.
      elim (at_either names xs (Ending g) h m at) [
        | inl was ↦ subst (Member (ending h m)) (sym is) (member_left (ending h m) old (ending g n ∷ []) ((all h m).1 was))
        | inr (same, e) ↦
            let same_g : h ≡ g = cc in
            let same_m : m ≡ n = same_Some m n (sym e ∙ name) in
            subst (Member (ending h m)) (sym is)
            (member_right (ending h m) old (ending g n ∷ []) (inl (ap₂ ending same_g same_m)))
      ],
)

pub listed_more : (names : List ℕ) (parts : List Part) (i : ℕ) (d : Part) (n : ℕ) (old new : List sets.Ending) → i < length parts
    → slice_get names i ≡ Some n → AreListed names (take i parts) old → IsListed n (get_or parts i d) old new
    → AreListed names (take (i + 1) parts) new
listed_more names parts i d n old new small name all is =
    let len : i ≡ length (take i parts) = sym (length_taken parts i small) in
    subst (λ l. AreListed names l new) (sym (take_one parts i d small))
    (listed names (take i parts) (get_or parts i d) n old new (subst (λ j. slice_get names j ≡ Some n) len name) all is)

-- ---- how many endings there are

pub endings_append : (xs ys : List Part) → endings_in (xs ++ ys) ≡ endings_in xs + endings_in ys
endings_append [] ys = omega arith
endings_append (Call entry ∷ xs) ys = endings_append xs ys
endings_append (Ending g ∷ xs) ys = let rest = endings_append xs ys in omega (arith, rest)

listed_count : (n : ℕ) (part : Part) (old new : List sets.Ending) → IsListed n part old new
    → length new ≡ length old + endings_in (part ∷ [])
listed_count n (Call entry) old new is = let e = ap length is in omega (arith, e)
listed_count n (Ending g) old new is = let e = ap length is ∙ length-append old (ending g n ∷ []) in omega (arith, e)

pub count_more : (parts : List Part) (i : ℕ) (d : Part) (n : ℕ) (old new : List sets.Ending) → i < length parts
    → length old ≡ endings_in (take i parts) → IsListed n (get_or parts i d) old new
    → length new ≡ endings_in (take (i + 1) parts)
count_more parts i d n old new small count is =
    let here = listed_count n (get_or parts i d) old new is in
    let next = ap endings_in (take_one parts i d small) ∙ endings_append (take i parts) (get_or parts i d ∷ []) in
    omega (arith, here, next, count)
