-- What is done for the pairs of an entry one by one, from the last to the first.
use Rattle.std.proofs.Common.{◌≡◌, ◌<◌, ◌≤◌, ◌+◌, ◌⊎◌, ℕ, zero, suc, Some, length, slice_get, inl, inr, sym, ap, ◌∙◌, subst, arith}
use Rattle.std.proofs.Common.{List, ◌∷◌, [], ◌↔◌, ◌++◌, map, take, get_or}
use Rattle.std.specs.List.Sorted.{IsPermutation}
use Rattle.std.proofs.lemmas.List.{append-nil, take_more}
use Rattle.std.proofs.lemmas.Option.{slice_get_within}
use Rattle.std.specs.Map.{keys_of}
use Rattle.indexmap.specs.IndexMap.{keys}
use Rattle.flow_graph.specs.declared.exit.Exit.{Exit}
use Rattle.language.specs.Lists.{Member}
use Rattle.language.proofs.Members.{member_left, member_right, member_append, member_map, map_member}
use Rattle.summaries.specs.declared.due.Caller.{Caller}
use Rattle.summaries.specs.declared.exits.Exits.{Exits}
use Rattle.summaries.specs.declared.known_entry.KnownEntry.{KnownEntry}
use Rattle.summaries.specs.declared.outbox.Outgoing.{Outgoing}
use Rattle.summaries.specs.declared.pair.Pair.{Pair}
use Rattle.summaries.specs.Exits.{pair, pair_at, count_of, LeadsTo}
use Rattle.summaries.specs.Found.{left}
use Rattle.summaries.specs.Grows.{AddsTo, OfSome, IsTold, IsToldOf}
use Rattle.summaries.specs.Links.{last_links}
use Rattle.summaries.specs.Readings.{IsPairOf, AddsPairsOf}
use Rattle.path_sets.proofs.PlaceLemmas.{index_of, at_index, get_map, got_map}
use Rattle.summaries.proofs.Eaches.{each_left, each_last, each_or_last}
use Rattle.groups.proofs.GroupLemmas.{key_at}
use Rattle.summaries.proofs.LinkLemmas.{length_keys}
use Rattle.summaries.proofs.PairLemmas.{got_pair, leads_to}
use Rattle.summaries.proofs.SortedLemmas.{same_members}
use Rattle.summaries.proofs.TellLemmas.{gives_as, gives_both, one_pair}

-- it is done for a pair of this entry, at a place from this one on
abbrev pub IsDoneFrom : {A X : Type 0} → Exits A → ℕ → ℕ → (ℕ → X → Type 0) → X → Type 0
IsDoneFrom exits entry first W done =
    (at : ℕ) × (first ≤ at) × ((exit : Exit) × (pair_at exits at ≡ Some (pair entry exit))) × W at done

-- it is done for a pair of this entry
abbrev pub IsDoneOf : {A X : Type 0} → Exits A → ℕ → (ℕ → X → Type 0) → X → Type 0
IsDoneOf exits entry W done = (at : ℕ) × ((exit : Exit) × (pair_at exits at ≡ Some (pair entry exit))) × W at done

-- the pair of this entry at this place leaves it
abbrev pub IsLeftAt : {A : Type 0} → Exits A → ℕ → ℕ → Exit → Type 0
IsLeftAt exits entry at exit = pair_at exits at ≡ Some (pair entry exit)

module _ {A : Type 0} (exits : Exits A) where
  -- each pair is at a place below the number of pairs
  pub pair_within : (at : ℕ) (found : Pair) → pair_at exits at ≡ Some found → at < count_of exits
  pair_within at found is =
      let (owner, kept, known) = got_pair (keys exits.by_entry) (slice_get (keys_of exits.pairs.items) at) found is in
      let within = slice_get_within (keys_of exits.pairs.items) at (owner, left found.b found.r) kept in
      let count = length_keys exits.pairs.items in
      omega (arith, within, count)

  module _ {X : Type 0} (entry : ℕ) (W : ℕ → X → Type 0) where
    -- at first nothing is done
    pub none_first : (link : ℕ) → LeadsTo (pair_at exits) entry (count_of exits) link → (xs : List X)
        → AddsTo (IsDoneFrom exits entry link W) xs xs
    none_first link leads xs = record {
      all = λ x (at, high, (b, here), told).
          let low = leads.rest at b (pair_within at (pair entry b) here) here in absurd (omega (arith, high, low));
      only = λ x m. inr m;
      behind = ([], sym (append-nil xs));
    }

    -- in the end all is
    pub all_last : (link : ℕ) → link ≡ 0 → (xs ys : List X) → AddsTo (IsDoneFrom exits entry link W) xs ys
        → AddsTo (IsDoneOf exits entry W) xs ys
    all_last link none xs ys gave = gives_as (IsDoneFrom exits entry link W) (IsDoneOf exits entry W) xs ys
        (λ x (at, high, is, told). (at, is, told))
        (λ x (at, is, told). (at, omega (arith, none), is, told)) gave

    -- the pair at the link, of which the next is at another link
    module _ (at link next : ℕ) (is : link ≡ at + 1) (b : Exit) (here : pair_at exits at ≡ Some (pair entry b))
        (leads : LeadsTo (pair_at exits) entry at next) where
      pub next_below : next ≤ at
      next_below = by next (λ k back. (leads.there k back).0)
        where
          by : (n : ℕ) → ((k : ℕ) → n ≡ k + 1 → k < at) → n ≤ at
          by zero low = omega arith
          by (suc k) low = let less = low k (omega arith) in omega (arith, less)

      to_next : (x : X) → IsDoneFrom exits entry link W x ⊎ W at x → IsDoneFrom exits entry next W x
      to_next x (inl (k, high, there, told)) = let low = next_below in (k, omega (arith, high, is, low), there, told)
      to_next x (inr told) = (at, next_below, (b, here), told)

      of_next : (x : X) → IsDoneFrom exits entry next W x → IsDoneFrom exits entry link W x ⊎ W at x
      of_next x (k, high, (c, there), told) = elim (which k) [
        | inl above ↦ inl (k, omega (arith, above, is), (c, there), told)
        | inr rest ↦ elim rest [
          | inl same ↦ inr (subst (λ n. W n x) same told)
          | inr below ↦ let low = leads.rest k c below there in absurd (omega (arith, low, high))
        ]
      ]
        where
          which : (n : ℕ) → (at < n) ⊎ ((n ≡ at) ⊎ (n < at))
          which n = grind arith

      pub told_next : (xs ys zs : List X) → AddsTo (IsDoneFrom exits entry link W) xs ys
          → AddsTo (W at) ys zs → AddsTo (IsDoneFrom exits entry next W) xs zs
      told_next xs ys zs first second =
          gives_both (IsDoneFrom exits entry link W) (W at) (IsDoneFrom exits entry next W) xs ys zs first second
          of_next to_next

  -- the summary of the pair at the link is not told yet
  pub not_yet : (entry : ℕ) (from : Caller) (at link : ℕ) → link ≡ at + 1 → (b : Exit) → pair_at exits at ≡ Some (pair entry b)
      → (xs ys : List Outgoing)
      → AddsTo (IsDoneFrom exits entry link (λ n. IsTold n from)) xs ys
      → ((x : Outgoing) → IsToldOf exits entry from x → Member x xs → ⊥)
      → (x : Outgoing) → IsTold at from x → Member x ys → ⊥
  not_yet entry from at link is b here xs ys gave new x told m = elim (gave.only x m) [
    | inl (k, high, there, was) ↦ let same = one_pair from k at x was told in absurd (omega (arith, high, is, same))
    | inr was ↦ new x (at, (b, here), told) was
  ]

  -- an entry that is known comes with the link to its last pair
  pub entry_leads : (known : ℕ × ℕ) → Member known (last_links exits.by_entry.entries)
      → LeadsTo (pair_at exits) known.0 (count_of exits) known.1
  entry_leads known m =
      let (owner, is) = index_of (last_links exits.by_entry.entries) known m in
      let (e, here, its) = got_map (λ (e : ℕ × KnownEntry). (e.0, e.1.last)) exits.by_entry.entries owner known is in
      subst (λ (k : ℕ × ℕ). LeadsTo (pair_at exits) k.0 (count_of exits) k.1) its
      (leads_to exits owner e.0 (count_of exits) e.1.last (key_at exits.by_entry.entries owner e here) (exits.last owner e.0 e.1 here))

  -- so the pairs of an entry with what it leaves are the pairs of it
  pub added_pairs : (entry : ℕ) (gathered sorted : List Exit) (old new : List Pair)
      → AddsTo (IsDoneOf exits entry (IsLeftAt exits entry)) [] gathered → IsPermutation gathered sorted
      → new ≡ old ++ map (pair entry) sorted → AddsPairsOf exits entry old new
  added_pairs entry gathered sorted old new gave moved more x = (
    λ m. elim (member_append x old (map (pair entry) sorted) (subst (Member x) more m)) [
      | inl was ↦ inl was
      | inr one ↦ of_one (map_member (pair entry) sorted x one)
    ],
    λ h. subst (Member x) (sym more) (elim h [
      | inl was ↦ member_left x old (map (pair entry) sorted) was
      | inr (own, (at, is)) ↦
          let exit = left x.b x.r in
          let same : x ≡ pair entry exit = λ i. pair (own i) exit in
          let here = is ∙ ap Some same in
          let m = (same_members gathered sorted moved exit).1 (gave.all exit (at, (exit, here), here)) in
          member_right x old (map (pair entry) sorted)
          (subst (λ p. Member p (map (pair entry) sorted)) (sym same) (member_map (pair entry) sorted exit m))
    ]),
  )
    where
      of_one : ((exit : Exit) × Member exit sorted × (x ≡ pair entry exit)) → Member x old ⊎ IsPairOf exits entry x
      of_one (exit, among, same) = elim (gave.only exit ((same_members gathered sorted moved exit).0 among)) [
        | inl (at, some, is) ↦ inr (ap (λ (p : Pair). p.a) same, (at, is ∙ ap Some (sym same)))
        | inr none ↦ absurd none
      ]

  -- and those of all entries are all pairs
  pub all_pairs : (entries : List (ℕ × ℕ)) → ((known : ℕ × ℕ) → Member known entries ↔ Member known (last_links exits.by_entry.entries))
      → (x : Pair) → OfSome (λ (known : ℕ × ℕ). IsPairOf exits known.0) entries x ↔ ((at : ℕ) × (pair_at exits at ≡ Some x))
  all_pairs entries same x = (
    λ (known, m, (own, there)). there,
    λ (at, is).
        let (owner, kept, known) = got_pair (keys exits.by_entry) (slice_get (keys_of exits.pairs.items) at) x is in
        let (e, here, its) = got_map (λ (e : ℕ × KnownEntry). e.0) exits.by_entry.entries owner x.a known in
        let linked = get_map (λ (e : ℕ × KnownEntry). (e.0, e.1.last)) exits.by_entry.entries owner e here in
        let link : ℕ × ℕ = (e.0, e.1.last) in
        (link, (same link).1 (at_index (last_links exits.by_entry.entries) link owner linked), (sym its, (at, is))),
  )

-- the pairs of one more entry
pub more_pairs : {A : Type 0} (exits : Exits A) (entries : List (ℕ × ℕ)) (i : ℕ) → i < length entries → (old new : List Pair)
    → ((x : Pair) → Member x old ↔ OfSome (λ (known : ℕ × ℕ). IsPairOf exits known.0) (take i entries) x)
    → AddsPairsOf exits (get_or entries i (0, 0)).0 old new
    → (x : Pair) → Member x new ↔ OfSome (λ (known : ℕ × ℕ). IsPairOf exits known.0) (take (i + 1) entries) x
more_pairs exits entries i within old new so_far added x =
    let W : ℕ × ℕ → Pair → Type 0 = λ known. IsPairOf exits known.0 in
    let e = get_or entries i (0, 0) in
    let one_more = take_more entries i (0, 0) within in (
      λ m. subst (λ l. OfSome W l x) (sym one_more) (elim ((added x).0 m) [
        | inl was ↦ each_left W (take i entries) (e ∷ []) x ((so_far x).0 was)
        | inr is ↦ each_last W (take i entries) e x is
      ]),
      λ w. (added x).1 (elim (each_or_last W (take i entries) e x (subst (λ l. OfSome W l x) one_more w)) [
        | inl was ↦ inl ((so_far x).1 was)
        | inr is ↦ inr is
      ]),
    )
