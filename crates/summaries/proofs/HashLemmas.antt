-- What is known of entries, when entries and pairs are added.
use Rattle.std.proofs.Common.{◌≡◌, suc, ◌+◌, ◌<◌, ◌⊎◌, ℕ, ◌↔◌, IsTrue, Bool, true, false, nat_eq, List, [], ◌∷◌, ◌++◌, length}
use Rattle.std.proofs.Common.{Some, slice_get, inl, inr, refl, sym, ap, ◌∙◌, subst, arith, true≢false, cond, min}
use Rattle.std.specs.Bool.{OnTrue}
use Rattle.std.specs.List.{count_by}
use Rattle.std.specs.Map.{keys_of}
use Rattle.std.proofs.lemmas.List.Sums.{sum_by-append}
use Rattle.std.proofs.lemmas.Bool.{false_from_ne_true}
use Rattle.std.proofs.lemmas.Map.Views.{exact_unsigned_eq}
use Rattle.std.proofs.lemmas.Option.{same_Some}
use Rattle.flow_graph.specs.declared.exit.Exit.{Exit}
use Rattle.indexmap.specs.IndexMap.{set_value_at}
use Rattle.path_sets.proofs.PlaceLemmas.{get_map, index_of}
use Rattle.summaries.specs.declared.known_entry.KnownEntry.{KnownEntry}
use Rattle.summaries.specs.Hashes.{is_one_of, few, AreSeen, AreReal, AreCounted, AreHashed, HasAllOf, IsLookedUp}
use Rattle.summaries.specs.Links.{owners, AreOwned}
use Rattle.summaries.specs.Signatures.{MayHave}
use Rattle.summaries.proofs.FindingLemmas.{is_member, was_or_new}
use Rattle.summaries.proofs.LinkLemmas.{nat_itself, last_there, other_index, written_there, others_there}

-- the owner of a pair is an entry
pub owner_within : (entries : List (ℕ × KnownEntry)) (pairs : List ((ℕ × Exit) × ℕ)) → AreOwned entries pairs → (owner : ℕ) (b : Exit)
    → is_one_of (keys_of pairs) (owner, b) ≡ true → owner < length entries
owner_within entries pairs owned owner b is =
    let (at, here) = index_of (keys_of pairs) (owner, b) (is_member (keys_of pairs) (owner, b) is) in
    owned at owner (get_map (λ (k : ℕ × Exit). k.0) (keys_of pairs) at (owner, b) here)

-- one more is counted if it is the one
pub counted_more : (owner new : ℕ) (owned : List ℕ) → count_by (nat_eq owner) (owned ++ new ∷ [])
    ≡ count_by (nat_eq owner) owned + (0 + cond (nat_eq owner new) 1 0)
counted_more owner new owned = sum_by-append (λ x. cond (nat_eq owner x) 1 0) owned (new ∷ [])

-- none is counted if all are less
pub none_counted : (owner : ℕ) (owned : List ℕ) → ((at o : ℕ) → slice_get owned at ≡ Some o → o < owner) → count_by (nat_eq owner) owned ≡ 0
none_counted owner [] less = refl
none_counted owner (o ∷ owned) less =
    let low = less 0 o refl in
    let other : nat_eq owner o ≡ false =
    false_from_ne_true (nat_eq owner o) (λ same. let is = exact_unsigned_eq owner o same in omega (arith, low, is)) in
    let whole : count_by (nat_eq owner) (o ∷ owned) ≡ (0 + 0) + count_by (nat_eq owner) owned =
    sum_by-append (λ x. cond (nat_eq owner x) 1 0) (o ∷ []) owned
    ∙ ap (λ b. (0 + cond b 1 0) + count_by (nat_eq owner) owned) other in
    let rest = none_counted owner owned (λ at x is. less (suc at) x is) in
    whole ∙ ap (λ n. (0 + 0) + n) rest

-- an entry that is added has no pairs yet
module _ (entries after : List (ℕ × KnownEntry)) (pairs : List ((ℕ × Exit) × ℕ)) (many : List (ℕ × Exit)) (entry : ℕ) (fresh : KnownEntry)
    (none : fresh.count ≡ 0) (owned : AreOwned entries pairs) where
  module _ (more : after ≡ entries ++ (entry, fresh) ∷ []) where
    either : (owner e : ℕ) (known : KnownEntry) → slice_get after owner ≡ Some (e, known)
        → (slice_get entries owner ≡ Some (e, known)) ⊎ ((owner ≡ length entries) × (fresh ≡ known))
    either owner e known is =
        let here = ap (λ l. slice_get l owner) (sym more) ∙ is in
        elim (other_index entries (entry, fresh) owner) [
          | inr same ↦ inl (sym same ∙ here)
          | inl new ↦ inr (
            new,
            ap (λ x. x.1) (same_Some (entry, fresh) (e, known)
                (sym (last_there entries (entry, fresh)) ∙ ap (slice_get (entries ++ (entry, fresh) ∷ [])) (sym new) ∙ here)),
          )
        ]

    seen_more : AreSeen entries pairs → AreSeen after pairs
    seen_more seen owner e known b is there = elim (either owner e known is) [
      | inl was ↦ seen owner e known b was there
      | inr new ↦
          let within = owner_within entries pairs owned owner b there in
          let end = new.0 in
          absurd (omega (arith, within, end))
    ]

    counted_still : AreCounted entries pairs → AreCounted after pairs
    counted_still counted owner e known is = elim (either owner e known is) [
      | inl was ↦ counted owner e known was
      | inr new ↦
          let zero_pairs =
          none_counted owner (owners pairs) (λ at o there. let within = owned at o there in let end = new.0 in
          omega (arith, within, end)) in
          sym (ap (λ (k : KnownEntry). k.count) new.1) ∙ none ∙ sym (ap (λ n. min n (few + 1)) zero_pairs)
    ]

    hashed_more : AreHashed entries many pairs → AreHashed after many pairs
    hashed_more hashed owner e known is past = elim (either owner e known is) [
      | inl was ↦ hashed owner e known was past
      | inr new ↦ let same = ap (λ (k : KnownEntry). k.count) new.1 in absurd (omega (arith, past, same, none))
    ]

  pub known_still : (after ≡ entries ++ (entry, fresh) ∷ []) ⊎ (after ≡ entries) → AreSeen entries pairs → AreCounted entries pairs
      → AreHashed entries many pairs → AreSeen after pairs × AreCounted after pairs × AreHashed after many pairs
  known_still (inl more) seen counted hashed = (seen_more more seen, counted_still more counted, hashed_more more hashed)
  known_still (inr same) seen counted hashed =
      subst (λ es. AreSeen es pairs × AreCounted es pairs × AreHashed es many pairs) (sym same) (seen, counted, hashed)

-- more pairs may be found by their hashes
pub hashed_still : (entries : List (ℕ × KnownEntry)) (pairs : List ((ℕ × Exit) × ℕ)) (old new : List (ℕ × Exit))
    → IsLookedUp (keys_of pairs) old new → AreHashed entries old pairs → AreHashed entries new pairs
hashed_still entries pairs old new looked hashed owner e known is past b there =
    looked.stay (owner, b) (hashed owner e known is past b there)

-- a pair of which the entry may not have the exit is new
pub seen_before : (kept : List (ℕ × Exit)) (k : ℕ × Exit) (P : Type 0) (fresh : Bool) → (IsTrue fresh ↔ (P → ⊥))
    → (is_one_of kept k ≡ true → P) → OnTrue fresh (is_one_of kept k ≡ false)
seen_before kept k P true told has = false_from_ne_true (is_one_of kept k) (λ there. told.0 refl (has there))
seen_before kept k P false told has = tt

-- so what is known of entries stays
pub all_still : (entries : List (ℕ × KnownEntry)) (pairs after : List ((ℕ × Exit) × ℕ)) (old new : List (ℕ × Exit)) → after ≡ pairs
    → AreSeen entries pairs → AreCounted entries pairs → AreHashed entries old pairs → IsLookedUp (keys_of after) old new
    → AreSeen entries after × AreReal new (keys_of after) × AreCounted entries after × AreHashed entries new after
all_still entries pairs after old new same seen counted hashed =
    subst
    (λ ps. IsLookedUp (keys_of ps) old new
    → AreSeen entries ps × AreReal new (keys_of ps) × AreCounted entries ps × AreHashed entries new ps) (sym same)
    (λ looked. (seen, looked.real, counted, hashed_still entries pairs old new looked hashed))

-- a pair is added to the entry at this index, of which more is known then
module _ (entries : List (ℕ × KnownEntry)) (pairs after : List ((ℕ × Exit) × ℕ)) (n entry : ℕ) (had has : KnownEntry) (left : Exit)
    (here : slice_get entries n ≡ Some (entry, had))
    (more : keys_of after ≡ keys_of pairs ++ (n, left) ∷ []) where
  abbrev known_more : List (ℕ × KnownEntry)
  known_more = set_value_at entries n has

  of_entry : (owner e : ℕ) (known : KnownEntry) → slice_get known_more owner ≡ Some (e, known)
      → ((owner ≡ n) × (has ≡ known)) ⊎ ((owner ≡ n → ⊥) × (slice_get entries owner ≡ Some (e, known)))
  of_entry owner e known is = by (nat_eq owner n) refl
    where
      by : (b : Bool) → nat_eq owner n ≡ b
          → ((owner ≡ n) × (has ≡ known)) ⊎ ((owner ≡ n → ⊥) × (slice_get entries owner ≡ Some (e, known)))
      by true same =
          let is_n = exact_unsigned_eq owner n same in
          inl (
            is_n,
            ap (λ x. x.1) (same_Some (entry, has) (e, known)
                (sym (written_there entries n entry had has here) ∙ ap (slice_get known_more) (sym is_n) ∙ is)),
          )
      by false other =
          let apart : owner ≡ n → ⊥ = λ is_n. true≢false (sym (ap (λ m. nat_eq m n) is_n ∙ nat_itself n) ∙ other) in
          elim (others_there entries n entry had has here owner) [
            | inl is_n ↦ absurd (apart is_n)
            | inr was ↦ inr (apart, sym was ∙ is)
          ]

  was_or_last : (k : ℕ × Exit) → is_one_of (keys_of after) k ≡ true → (is_one_of (keys_of pairs) k ≡ true) ⊎ (k ≡ (n, left))
  was_or_last k is = was_or_new (keys_of pairs) (n, left) k (ap (λ ks. is_one_of ks k) (sym more) ∙ is)

  pub seen_after : MayHave has.seen left → ((b : Exit) → MayHave had.seen b → MayHave has.seen b) → AreSeen entries pairs
      → AreSeen known_more after
  seen_after new keeps seen owner e known b is there = elim (of_entry owner e known is) [
    | inl its ↦ subst (λ (k : KnownEntry). MayHave k.seen b) its.1 (elim (was_or_last (owner, b) there) [
      | inl was ↦ keeps b (seen n entry had b here (subst (λ m. is_one_of (keys_of pairs) (m, b) ≡ true) its.0 was))
      | inr last ↦ subst (MayHave has.seen) (sym (ap (λ (k : ℕ × Exit). k.1) last)) new
    ])
    | inr other ↦ elim (was_or_last (owner, b) there) [
      | inl was ↦ seen owner e known b other.1 was
      | inr last ↦ absurd (other.0 (ap (λ (k : ℕ × Exit). k.0) last))
    ]
  ]

  pub hashed_after : (old many : List (ℕ × Exit)) → ((k : ℕ × Exit) → is_one_of old k ≡ true → is_one_of many k ≡ true)
      → (few < has.count → HasAllOf many (keys_of pairs ++ (n, left) ∷ []) n) → AreHashed entries old pairs
      → AreHashed known_more many after
  hashed_after old many stay all hashed owner e known is past b there = elim (of_entry owner e known is) [
    | inl its ↦
        let same = ap (λ (k : KnownEntry). k.count) its.1 in
        let owned = subst (λ m. is_one_of (keys_of after) (m, b) ≡ true) its.0 there in
        subst (λ m. is_one_of many (m, b) ≡ true) (sym its.0)
        (all (subst (λ m. few < m) (sym same) past) b (ap (λ ks. is_one_of ks (n, b)) (sym more) ∙ owned))
    | inr other ↦ elim (was_or_last (owner, b) there) [
      | inl was ↦ stay (owner, b) (hashed owner e known other.1 past b was)
      | inr last ↦ absurd (other.0 (ap (λ (k : ℕ × Exit). k.0) last))
    ]
  ]

  pub counted_after : has.count ≡ min (had.count + 1) (few + 1) → owners after ≡ owners pairs ++ n ∷ [] → AreCounted entries pairs
      → AreCounted known_more after
  counted_after one_more owned counted owner e known is =
      let more_of = ap (count_by (nat_eq owner)) owned ∙ counted_more owner n (owners pairs) in
      elim (of_entry owner e known is) [
        | inl its ↦
            let was : had.count ≡ min (count_by (nat_eq owner) (owners pairs)) (few + 1) =
            counted n entry had here ∙ ap (λ m. min (count_by (nat_eq m) (owners pairs)) (few + 1)) (sym its.0) in
            let same : known.count ≡ has.count = sym (ap (λ (k : KnownEntry). k.count) its.1) in
            let one : nat_eq owner n ≡ true = ap (λ m. nat_eq m n) its.0 ∙ nat_itself n in
            let sum : count_by (nat_eq owner) (owners after) ≡ count_by (nat_eq owner) (owners pairs) + 1 =
            more_of ∙ ap (λ b. count_by (nat_eq owner) (owners pairs) + (0 + cond b 1 0)) one in
            omega (arith, was, same, sum, one_more)
        | inr other ↦
            let none : nat_eq owner n ≡ false = false_from_ne_true (nat_eq owner n) (λ e. other.0 (exact_unsigned_eq owner n e)) in
            let sum : count_by (nat_eq owner) (owners after) ≡ count_by (nat_eq owner) (owners pairs) =
            more_of ∙ ap (λ b. count_by (nat_eq owner) (owners pairs) + (0 + cond b 1 0)) none
            ∙ add_none (count_by (nat_eq owner) (owners pairs)) in
            counted owner e known other.1 ∙ ap (λ m. min m (few + 1)) (sym sum)
      ]
    where
      add_none : (m : ℕ) → m + 0 ≡ m
      add_none m = omega arith
