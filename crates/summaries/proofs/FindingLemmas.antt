-- The pairs of an owner, from the last to the first by their links.
use Rattle.std.proofs.Common.{◌≡◌, ◌<◌, ◌≤◌, ◌⊎◌, ◌+◌, ℕ, zero, suc, Bool, true, false, not, ◌&&◌, ◌||◌, nat_eq, if◌then◌else◌, List, []}
use Rattle.std.proofs.Common.{◌∷◌, ◌++◌, length, Result, Ok, Err}
use Rattle.std.specs.Prelude.{IfOk, OnOk, OnErr}
use Rattle.std.specs.Bool.{OnTrue, OnFalse}
use Rattle.std.proofs.Common.{Some, cond, slice_get, get_or, inl, inr, refl, sym, ap, ◌∙◌, subst, arith, true≢false}
use Rattle.std.specs.Map.{keys_of}
use Rattle.std.proofs.lemmas.Bool.{and_parts}
use Rattle.std.proofs.lemmas.List.Folds.{list_any-append}
use Rattle.std.proofs.lemmas.Map.Views.{exact_unsigned_eq}
use Rattle.std.proofs.lemmas.Option.{same_Some, slice_get_within, get_or_from_slice_get}
use Rattle.flow_graph.specs.declared.exit.Exit.{Exit}
use Rattle.language.specs.Lists.{Member}
use Rattle.path_sets.proofs.KeyLemmas.{found_is_in, is_found}
use Rattle.path_sets.proofs.PlaceLemmas.{get_map, got_map, index_of}
use Rattle.summaries.specs.Found.{left}
use Rattle.summaries.specs.Hashes.{kept_eq, few, is_one_of, AreReal, HasAllOf, IsHashedToo, IsLookedUp}
use Rattle.summaries.specs.Links.{owners, IsLink, AreLinked}
use Rattle.summaries.proofs.LinkLemmas.{nat_itself, length_owners}

same_flag : (x y : Bool) → nat_eq (if x then 1 else 0) (if y then 1 else 0) ≡ true → x ≡ y
same_flag true true e = refl
same_flag true false e = absurd (true≢false (sym e))
same_flag false true e = absurd (true≢false (sym e))
same_flag false false e = refl

-- pairs that compare as equal are the same
pub same_kept : (x y : ℕ × Exit) → kept_eq x y ≡ true → x ≡ y
same_kept x y e =
    let (owner, rest) = and_parts (nat_eq x.0 y.0)
    (nat_eq (if x.1.result then 1 else 0) (if y.1.result then 1 else 0) && nat_eq x.1.globals y.1.globals) e in
    let (result, globals) = and_parts (nat_eq (if x.1.result then 1 else 0) (if y.1.result then 1 else 0))
    (nat_eq x.1.globals y.1.globals) rest in
    λ i. (
      exact_unsigned_eq x.0 y.0 owner i,
      left (exact_unsigned_eq x.1.globals y.1.globals globals i) (same_flag x.1.result y.1.result result i),
    )

-- and the same pair compares as equal
pub kept_itself : (x : ℕ × Exit) → kept_eq x x ≡ true
kept_itself x =
    ap (λ b. b && (nat_eq (if x.1.result then 1 else 0) (if x.1.result then 1 else 0) && nat_eq x.1.globals x.1.globals)) (nat_itself x.0)
    ∙ ap (λ b. b && nat_eq x.1.globals x.1.globals) (nat_itself (if x.1.result then 1 else 0))
    ∙ nat_itself x.1.globals

-- a pair is one of those that it is a member of
pub is_member : (kept : List (ℕ × Exit)) (k : ℕ × Exit) → is_one_of kept k ≡ true → Member k kept
is_member kept k = found_is_in kept_eq same_kept k kept

pub one_of : (kept : List (ℕ × Exit)) (k : ℕ × Exit) → Member k kept → is_one_of kept k ≡ true
one_of kept k = is_found kept_eq kept_itself k kept

-- one that is not new is there
pub not_new : (b new : Bool) → new ≡ not b → new ≡ false → b ≡ true
not_new true new is none = refl
not_new false new is none = absurd (true≢false (sym is ∙ none))

-- and one that is new is not
pub is_new_only : (b new : Bool) → new ≡ not b → new ≡ true → b ≡ true → ⊥
is_new_only b new is one there = true≢false (sym one ∙ is ∙ ap not there)

-- pairs with one more
module _ (kept : List (ℕ × Exit)) (new : ℕ × Exit) where
  with_one : (k : ℕ × Exit) → is_one_of (kept ++ new ∷ []) k ≡ (is_one_of kept k || (kept_eq k new || false))
  with_one k = list_any-append (kept_eq k) kept (new ∷ [])

  pub was_or_new : (k : ℕ × Exit) → is_one_of (kept ++ new ∷ []) k ≡ true → (is_one_of kept k ≡ true) ⊎ (k ≡ new)
  was_or_new k is = by (is_one_of kept k) (kept_eq k new) refl (sym (with_one k) ∙ is)
    where
      by : (b c : Bool) → kept_eq k new ≡ c → (b || (c || false)) ≡ true → (b ≡ true) ⊎ (k ≡ new)
      by true c same e = inl refl
      by false true same e = inr (same_kept k new same)
      by false false same e = absurd (true≢false (sym e))

  -- those that were there are there, and so is the new one
  pub first_too : (k : ℕ × Exit) → is_one_of kept k ≡ true → is_one_of (kept ++ new ∷ []) k ≡ true
  first_too k there = with_one k ∙ ap (λ b. b || (kept_eq k new || false)) there

  pub last_too : is_one_of (kept ++ new ∷ []) new ≡ true
  last_too = with_one new ∙ ap (λ b. is_one_of kept new || (b || false)) (kept_itself new) ∙ or_true (is_one_of kept new)
    where
      or_true : (b : Bool) → (b || true) ≡ true
      or_true true = refl
      or_true false = refl

module _ (pairs : List ((ℕ × Exit) × ℕ)) (owner : ℕ) where
  -- each pair of the owner from this place on has it
  abbrev pub FromOn : (Exit → Type 0) → ℕ → Type 0
  FromOn P first = (at : ℕ) (b : Exit) → first ≤ at → slice_get (keys_of pairs) at ≡ Some (owner, b) → P b

  owned_at : (at : ℕ) (b : Exit) → slice_get (keys_of pairs) at ≡ Some (owner, b) → slice_get (owners pairs) at ≡ Some owner
  owned_at at b is = get_map (λ (k : ℕ × Exit). k.0) (keys_of pairs) at (owner, b) is

  -- none is behind the last
  pub none_from : (P : Exit → Type 0) (link : ℕ) → IsLink (owners pairs) owner (length pairs) link → FromOn P link
  none_from P link (rest, there) at b high is =
      let owned = owned_at at b is in
      let within = slice_get_within (owners pairs) at owner owned in
      let count = length_owners pairs in
      let low = rest at (omega (arith, within, count)) owned in
      absurd (omega (arith, low, high))

  -- each is at a place
  pub for_all : (P : Exit → Type 0) → FromOn P 0 → (b : Exit) → is_one_of (keys_of pairs) (owner, b) ≡ true → P b
  for_all P all b is =
      let (at, here) = index_of (keys_of pairs) (owner, b) (is_member (keys_of pairs) (owner, b) is) in
      all at b (omega arith) here

  module _ (bound at link : ℕ) (leads : IsLink (owners pairs) owner bound link) (is : link ≡ at + 1) where
    -- the pair that a link leads to
    pub at_link : (b : Exit) × (before : ℕ) × (slice_get pairs at ≡ Some ((owner, b), before))
    at_link =
        let (less, owned) = leads.1 at is in
        let (k, key, same) = got_map (λ (k : ℕ × Exit). k.0) (keys_of pairs) at owner owned in
        let (p, pair, its) = got_map (λ (p : (ℕ × Exit) × ℕ). p.0) pairs at k key in
        (p.0.1, p.1, pair ∙ λ i. Some (((ap (λ (k : ℕ × Exit). k.0) its ∙ same) i, p.0.1), p.1))

    pub within_pairs : at < length pairs
    within_pairs = let (b, before, here) = at_link in slice_get_within pairs at ((owner, b), before) here

    -- as it is read there
    pub read_there : (item got : (ℕ × Exit) × ℕ) → item ≡ got → got ≡ get_or pairs at got
        → (slice_get pairs at ≡ Some ((owner, item.0.1), item.1)) × (item.0 ≡ (owner, item.0.1))
    read_there item got seen is_got =
        let (b, before, here) = at_link in
        let whole : item ≡ ((owner, b), before) = seen ∙ is_got ∙ get_or_from_slice_get pairs at ((owner, b), before) got here in (
          here ∙ (λ i. Some ((owner, (sym whole i).0.1), (sym whole i).1)),
          λ i. ((whole i).0.0, item.0.1),
        )

  module _ (linked : AreLinked pairs) (at link next : ℕ) (is : link ≡ at + 1) (b : Exit)
      (here : slice_get pairs at ≡ Some ((owner, b), next)) where
    -- the next link leads to the last of those before it
    pub next_leads : IsLink (owners pairs) owner at next
    next_leads = linked at owner b next here

    pub next_below : next ≤ at
    next_below = by next (λ k back. (next_leads.1 k back).0)
      where
        by : (n : ℕ) → ((k : ℕ) → n ≡ k + 1 → k < at) → n ≤ at
        by zero low = omega arith
        by (suc k) low = let less = low k (omega arith) in omega (arith, less)

    pub one_from : (P : Exit → Type 0) → P b → FromOn P link → FromOn P next
    one_from P its rest k c high there = elim (which k) [
      | inl above ↦ rest k c (omega (arith, above, is)) there
      | inr other ↦ elim other [
        | inl same ↦
            let key = get_map (λ (p : (ℕ × Exit) × ℕ). p.0) pairs at ((owner, b), next) here in
            let whole = same_Some (owner, b) (owner, c) (sym key ∙ ap (slice_get (keys_of pairs)) (sym same) ∙ there) in
            subst P (ap (λ (k : ℕ × Exit). k.1) whole) its
        | inr below ↦ let low = next_leads.0 k below (owned_at k c there) in absurd (omega (arith, low, high))
      ]
    ]
      where
        which : (n : ℕ) → (at < n) ⊎ ((n ≡ at) ⊎ (n < at))
        which n = grind arith

-- one pair is added to those that are found by their hashes
module _ (k : ℕ × Exit) (before after : List (ℕ × Exit)) (more : IsHashedToo k before after) where
  -- the others stay, and it is there
  pub hashed_one : ((x : ℕ × Exit) → is_one_of before x ≡ true → is_one_of after x ≡ true) × (is_one_of after k ≡ true)
  hashed_one = (
    λ x is. more x ∙ ap (cond (kept_eq k x) true) is ∙ either (kept_eq k x),
    more k ∙ ap (λ b. cond b true (is_one_of before k)) (kept_itself k),
  )
    where
      either : (b : Bool) → cond b true true ≡ true
      either true = refl
      either false = refl

  -- and no more
  pub hashed_or : (x : ℕ × Exit) → is_one_of after x ≡ true → (is_one_of before x ≡ true) ⊎ (k ≡ x)
  hashed_or x is = by (kept_eq k x) refl (sym (more x) ∙ is)
    where
      by : (b : Bool) → kept_eq k x ≡ b → cond b true (is_one_of before x) ≡ true → (is_one_of before x ≡ true) ⊎ (k ≡ x)
      by true same e = inr (same_kept k x same)
      by false same e = inl e

module _ (kept old : List (ℕ × Exit)) where
  pub looked_first : AreReal old kept → IsLookedUp kept old old
  looked_first real = record { stay = λ k is. is; real = real }

  -- one that is kept may be added
  pub looked_up : (before after : List (ℕ × Exit)) (k : ℕ × Exit) → is_one_of kept k ≡ true → IsHashedToo k before after
      → IsLookedUp kept old before → IsLookedUp kept old after
  looked_up before after k there more looked = record {
    stay = λ x is. (hashed_one k before after more).0 x (looked.stay x is);
    real = λ x is. elim (hashed_or k before after more x is) [
      | inl was ↦ looked.real x was
      | inr same ↦ subst (λ y. is_one_of kept y ≡ true) same there
    ];
  }

-- the pairs of an owner are there, with one more
pub all_and_new : (kept : List (ℕ × Exit)) (owner : ℕ) (new : Exit) (before after : List (ℕ × Exit)) → HasAllOf before kept owner
    → IsHashedToo (owner, new) before after → HasAllOf after (kept ++ (owner, new) ∷ []) owner
all_and_new kept owner new before after all more b is =
    let (had, here) = hashed_one (owner, new) before after more in
    elim (was_or_new kept (owner, new) (owner, b) is) [
      | inl was ↦ had (owner, b) (all b was)
      | inr same ↦ subst (λ k. is_one_of after k ≡ true) (sym same) here
    ]

-- what is told of a new pair and of one that is known
if_new : {P : Type 0} (new : Bool) → P → OnTrue new P
if_new true p = p
if_new false p = tt

if_known : {P : Type 0} (new : Bool) → (new ≡ false → P) → OnFalse new P
if_known true p = tt
if_known false p = p refl

-- all pairs of the owner are found by their hashes, and those that are so found are kept
module _ (many kept : List (ℕ × Exit)) (owner : ℕ) (new : Exit) where
  -- so the pair is found if it is kept
  pub hashed_same : AreReal many kept → HasAllOf many kept owner → is_one_of many (owner, new) ≡ is_one_of kept (owner, new)
  hashed_same real all = by (is_one_of many (owner, new)) (is_one_of kept (owner, new)) (real (owner, new)) (all new)
    where
      by : (b c : Bool) → (b ≡ true → c ≡ true) → (c ≡ true → b ≡ true) → b ≡ c
      by true c there back = sym (there refl)
      by false true there back = back refl
      by false false there back = refl

  module _ (real : AreReal many kept) (after : List (ℕ × Exit)) {E : Type 0} where
    -- what is told if the pair was there
    pub hashed_known : (r : Result Bool E) → OnOk r (IsHashedToo (owner, new) many after)
        → IfOk r (λ is. is ≡ not (is_one_of many (owner, new))) → IfOk r (λ is. OnFalse is (IsLookedUp kept many after))
    hashed_known (Ok is) more told = if_known is (λ none.
        looked_up kept many many after (owner, new)
        (real (owner, new) (not_new (is_one_of many (owner, new)) is told none)) more (looked_first kept many real))
    hashed_known (Err e) more told = tt

    -- and if it was not
    pub hashed_added : (r : Result Bool E) → OnOk r (IsHashedToo (owner, new) many after)
        → IfOk r (λ is. OnTrue is (IsLookedUp (kept ++ (owner, new) ∷ []) many after))
    hashed_added (Ok is) more = if_new is
        (looked_up (kept ++ (owner, new) ∷ []) many many after (owner, new) (last_too kept (owner, new)) more
        (looked_first (kept ++ (owner, new) ∷ []) many (λ x there. first_too kept (owner, new) x (real x there))))
    hashed_added (Err e) more = tt

  pub hashed_all : (count : ℕ) → HasAllOf many kept owner → (after : List (ℕ × Exit)) → {E : Type 0} → (r : Result Bool E)
      → OnOk r (IsHashedToo (owner, new) many after)
      → IfOk r (λ is. OnTrue is (few ≤ count → HasAllOf after (kept ++ (owner, new) ∷ []) owner))
  hashed_all count all after (Ok is) more = if_new is (λ so_many. all_and_new kept owner new many after all more)
  hashed_all count all after (Err e) more = tt

-- and after an error
pub hashed_err : (many kept : List (ℕ × Exit)) → AreReal many kept → (after : List (ℕ × Exit)) → {E : Type 0} → (r : Result Bool E)
    → OnErr r (after ≡ many) → OnErr r (IsLookedUp kept many after)
hashed_err many kept real after (Ok is) same = tt
hashed_err many kept real after (Err e) same = subst (IsLookedUp kept many) (sym same) (looked_first kept many real)
