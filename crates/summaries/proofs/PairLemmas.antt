-- Pairs by their places.
use Rattle.std.proofs.Common.{◌≡◌, ◌⊎◌, ℕ, zero, suc, false, nat_eq, List, [], ◌∷◌, ◌++◌, length}
use Rattle.std.proofs.Common.{Option, None, Some, slice_get, get_or, inl, inr, refl, sym, ap, ◌∙◌, arith, true≢false}
use Rattle.std.specs.Option.{option_map}
use Rattle.std.specs.List.{IsDistinct, AllByRecursion}
use Rattle.std.specs.Map.{keys_of, lookup}
use Rattle.std.proofs.lemmas.Map.Keys.{IsDistinct-head, IsDistinct-tail}
use Rattle.std.proofs.lemmas.Option.{none-some, same_Some, get_or_from_slice_get}
use Rattle.flow_graph.specs.declared.exit.Exit.{Exit}
use Rattle.indexmap.specs.IndexMap.{keys}
use Rattle.language.specs.Lists.{Member}
use Rattle.path_sets.proofs.PlaceLemmas.{get_map, got_map, at_index, index_of}
use Rattle.summaries.specs.declared.known_entry.KnownEntry.{KnownEntry}
use Rattle.summaries.specs.declared.pair.Pair.{Pair}
use Rattle.summaries.specs.declared.exits.Exits.{Exits}
use Rattle.summaries.specs.Exits.{pair, pair_among, pair_at, LeadsTo, AllPairsStay}
use Rattle.summaries.specs.Found.{left}
use Rattle.summaries.specs.Links.{owners, IsLink}
use Rattle.summaries.proofs.LinkLemmas.{nat_itself, last_there, other_index, none_behind_all, keys_with, length_keys, not_found}

-- a number is not among those behind it, if none occurs twice
not_behind : (x : ℕ) (xs : List ℕ) (k j : ℕ) → IsDistinct nat_eq (x ∷ xs) → Some x ≡ Some k → slice_get xs j ≡ Some k → ⊥
not_behind x xs k j once is at =
    true≢false (sym (ap (nat_eq x) (sym (same_Some x k is)) ∙ nat_itself x) ∙ all_at xs j (IsDistinct-head nat_eq x xs once) at)
  where
    all_at : (ys : List ℕ) (i : ℕ) → AllByRecursion (λ z. nat_eq x z ≡ false) ys → slice_get ys i ≡ Some k → nat_eq x k ≡ false
    all_at [] i all here = absurd (none-some k here)
    all_at (z ∷ zs) zero all here = ap (nat_eq x) (sym (same_Some z k here)) ∙ all.0
    all_at (z ∷ zs) (suc i) all here = all_at zs i all.1 here

-- a number that occurs once is at one index
pub one_index : (ks : List ℕ) (k i j : ℕ) → IsDistinct nat_eq ks → slice_get ks i ≡ Some k → slice_get ks j ≡ Some k → i ≡ j
one_index [] k i j once at_i at_j = absurd (none-some k at_i)
one_index (x ∷ xs) k zero zero once at_i at_j = refl
one_index (x ∷ xs) k zero (suc j) once at_i at_j = absurd (not_behind x xs k j once at_i at_j)
one_index (x ∷ xs) k (suc i) zero once at_i at_j = absurd (not_behind x xs k i once at_j at_i)
one_index (x ∷ xs) k (suc i) (suc j) once at_i at_j = ap suc (one_index xs k i j (IsDistinct-tail nat_eq x xs once) at_i at_j)

-- what is kept where a pair is
pub got_pair : (entries : List ℕ) (kept : Option (ℕ × Exit)) (found : Pair) → pair_among entries kept ≡ Some found
    → (owner : ℕ) × (kept ≡ Some (owner, left found.b found.r)) × (slice_get entries owner ≡ Some found.a)
got_pair entries None found is = absurd (none-some found is)
got_pair entries (Some k) found is = by (slice_get entries k.0) refl is
  where
    by : (r : Option ℕ) → slice_get entries k.0 ≡ r → option_map (λ entry. pair entry k.1) r ≡ Some found
        → (owner : ℕ) × (Some k ≡ Some (owner, left found.b found.r)) × (slice_get entries owner ≡ Some found.a)
    by None at same = absurd (none-some found same)
    by (Some entry) at same =
        let whole : pair entry k.1 ≡ found = same_Some (pair entry k.1) found same in
        (k.0, (λ i. Some (k.0, left (whole i).b (whole i).r)), at ∙ ap (λ (p : Pair). Some p.a) whole)

-- a pair is where it is kept
pub pair_kept : (entries : List ℕ) (kept : Option (ℕ × Exit)) (owner entry : ℕ) (b : Exit) → kept ≡ Some (owner, b)
    → slice_get entries owner ≡ Some entry → pair_among entries kept ≡ Some (pair entry b)
pair_kept entries kept owner entry b is here = ap (pair_among entries) is ∙ ap (option_map (λ e. pair e b)) here

-- a pair with its link is read where it is kept
pub read_pair : (pairs : List ((ℕ × Exit) × ℕ)) (at : ℕ) (item got : (ℕ × Exit) × ℕ) → item ≡ got → got ≡ get_or pairs at got
    → (k : ℕ × Exit) → slice_get (keys_of pairs) at ≡ Some k → (slice_get pairs at ≡ Some (k, item.1)) × (item.0 ≡ k)
read_pair pairs at item got seen is_got k key =
    let (p, here, its) = got_map (λ (p : (ℕ × Exit) × ℕ). p.0) pairs at k key in
    let whole : item ≡ p = seen ∙ is_got ∙ get_or_from_slice_get pairs at p got here in (
      here ∙ (λ i. Some (its i, (sym whole i).1)),
      ap (λ (q : (ℕ × Exit) × ℕ). q.0) whole ∙ its,
    )

module _ {A : Type 0} (exits : Exits A) where
  -- the owner of a pair
  owner_there : (at owner : ℕ) (b : Exit) → slice_get (keys_of exits.pairs.items) at ≡ Some (owner, b)
      → slice_get (owners exits.pairs.items) at ≡ Some owner
  owner_there at owner b is = get_map (λ (k : ℕ × Exit). k.0) (keys_of exits.pairs.items) at (owner, b) is

  -- a link between the pairs of an owner leads to those of its entry
  pub leads_to : (owner entry bound link : ℕ) → slice_get (keys exits.by_entry) owner ≡ Some entry
      → IsLink (owners exits.pairs.items) owner bound link → LeadsTo (pair_at exits) entry bound link
  leads_to owner entry bound link here (rest, back) = record {
    there = λ at is.
        let (less, owned) = back at is in
        let (k, kept, same) = got_map (λ (k : ℕ × Exit). k.0) (keys_of exits.pairs.items) at owner owned in (
          less,
          (
            k.1,
            pair_kept (keys exits.by_entry) (slice_get (keys_of exits.pairs.items) at) owner entry k.1
                (kept ∙ (λ i. Some (same i, k.1))) here,
          ),
        );
    rest = λ at b less is.
        let (other, kept, known) = got_pair (keys exits.by_entry) (slice_get (keys_of exits.pairs.items) at) (pair entry b) is in
        let same = one_index (keys exits.by_entry) entry other owner exits.once known here in
        rest at less (owner_there at other b kept ∙ ap Some same);
  }

  -- no pair is of an entry that is not there
  pub none_of : (entry : ℕ) → lookup (nat_eq entry) exits.by_entry.entries ≡ None → (at : ℕ) (b : Exit)
      → pair_at exits at ≡ Some (pair entry b) → ⊥
  none_of entry none at b is =
      let (owner, kept, known) = got_pair (keys exits.by_entry) (slice_get (keys_of exits.pairs.items) at) (pair entry b) is in
      not_found nat_eq exits.by_entry.entries entry (nat_itself entry) none owner known

-- an entry that is added changes no pair
pub pairs_stay : {A : Type 0} (old : Exits A) (after : List (ℕ × KnownEntry)) (entry : ℕ) (known : KnownEntry)
    → after ≡ old.by_entry.entries ++ (entry, known) ∷ []
    → (at : ℕ) → pair_among (keys_of after) (slice_get (keys_of old.pairs.items) at) ≡ pair_at old at
pairs_stay old after entry known more at =
    (λ i. pair_among (keys_of (more i)) (slice_get (keys_of old.pairs.items) at))
    ∙ ap (λ ks. pair_among ks (slice_get (keys_of old.pairs.items) at)) (keys_with old.by_entry.entries (entry, known))
    ∙ by (slice_get (keys_of old.pairs.items) at) refl
  where
    by : (k : Option (ℕ × Exit)) → slice_get (keys_of old.pairs.items) at ≡ k
        → pair_among (keys old.by_entry ++ entry ∷ []) k ≡ pair_among (keys old.by_entry) k
    by None is = refl
    by (Some k) is =
        let owned = old.owned at k.0 (owner_there old at k.0 k.1 is) in
        let count = length_keys old.by_entry.entries in
        elim (other_index (keys old.by_entry) entry k.0) [
          | inl end ↦ absurd (omega (arith, owned, count, end))
          | inr stays ↦ ap (option_map (λ e. pair e k.1)) stays
        ]

-- what is kept for an entry at this index
module _ {A : Type 0} (old mid : Exits A) (n entry : ℕ) (b : Exit) (stay : AllPairsStay old mid)
    (known : slice_get (keys mid.by_entry) n ≡ Some entry) where
  abbrev ks : List (ℕ × Exit)
  ks = keys_of mid.pairs.items

  -- a pair that is kept already is at its place
  pub pair_known : Member (n, b) (keys_of mid.pairs.items) → (at : ℕ) × (pair_at old at ≡ Some (pair entry b))
  pair_known m =
      let (at, is) = index_of ks (n, b) m in
      (at, sym (stay at) ∙ pair_kept (keys mid.by_entry) (slice_get ks at) n entry b is known)

  -- one that is kept behind the others is added
  module _ (apart : Member (n, b) (keys_of mid.pairs.items) → ⊥) (entries : List (ℕ × KnownEntry))
      (same : keys_of entries ≡ keys mid.by_entry)
      (had : ℕ) (after : List ((ℕ × Exit) × ℕ)) (more : after ≡ mid.pairs.items ++ ((n, b), had) ∷ [])
      (here : ℕ) (is : here ≡ length mid.pairs.items) where
    abbrev now : ℕ → Option Pair
    now at = pair_among (keys_of entries) (slice_get (keys_of after) at)

    end : here ≡ length ks
    end = is ∙ sym (length_keys mid.pairs.items)

    at_now : (at : ℕ) → now at ≡ pair_among (keys mid.by_entry) (slice_get (ks ++ (n, b) ∷ []) at)
    at_now at = (λ i. pair_among (same i) (slice_get (keys_of (more i)) at))
        ∙ ap (λ l. pair_among (keys mid.by_entry) (slice_get l at)) (keys_with mid.pairs.items ((n, b), had))

    pub new_apart : (at : ℕ) → pair_at old at ≡ Some (pair entry b) → ⊥
    new_apart at there =
        let (owner, kept, its) = got_pair (keys mid.by_entry) (slice_get ks at) (pair entry b) (stay at ∙ there) in
        let its_own = one_index (keys mid.by_entry) entry owner n mid.once its known in
        apart (at_index ks (n, b) at (kept ∙ λ i. Some (its_own i, b)))

    pub new_free : pair_at old here ≡ None
    new_free = sym (stay here) ∙ ap (pair_among (keys mid.by_entry)) (ap (slice_get ks) end ∙ none_behind_all ks)

    pub new_there : now here ≡ Some (pair entry b)
    new_there = at_now here ∙ pair_kept (keys mid.by_entry) (slice_get (ks ++ (n, b) ∷ []) here) n entry b
        (ap (slice_get (ks ++ (n, b) ∷ [])) end ∙ last_there ks (n, b)) known

    pub new_others : (at : ℕ) → (at ≡ here) ⊎ (now at ≡ pair_at old at)
    new_others at = elim (other_index ks (n, b) at) [
      | inl last ↦ inl (last ∙ sym end)
      | inr was ↦ inr (at_now at ∙ ap (pair_among (keys mid.by_entry)) was ∙ stay at)
    ]
