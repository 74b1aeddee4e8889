-- Links between pairs, when entries and pairs are added.
use Rattle.std.proofs.Common.{◌≡◌, ◌≤◌, ◌⊎◌, ◌+◌, ℕ, zero, suc, Bool, true, false, cond, nat_eq, List, [], ◌∷◌, ◌++◌, length}
use Rattle.std.proofs.Common.{Option, None, Some, is_some, slice_get, inl, inr, refl, sym, ap, ◌∙◌, subst, arith, true≢false, length-append}
use Rattle.std.proofs.Common.{Result, Ok, Err, OnOk, OnErr}
use Rattle.std.specs.Map.{keys_of, lookup}
use Rattle.std.proofs.lemmas.Bool.Decides.{nat_tests}
use Rattle.std.proofs.lemmas.Map.Views.{exact_unsigned_eq}
use Rattle.std.proofs.lemmas.Option.{none-some, same_Some, slice_get_within}
use Rattle.std.specs.Bool.{OnTrue, OnFalse}
use Rattle.indexmap.specs.IndexMap.{set_value_at}
use Rattle.indexmap.specs.Layout.{length-set_value_at}
use Rattle.flow_graph.specs.declared.exit.Exit.{Exit}
use Rattle.summaries.specs.declared.known_entry.KnownEntry.{KnownEntry}
use Rattle.summaries.specs.Links.{owners, IsLink, AreOwned, AreLastLinks, AreLinked}

-- a number is the same as itself
pub nat_itself : (n : ℕ) → nat_eq n n ≡ true
nat_itself n = grind (arith, nat_tests)

module _ {X : Type 0} where
  -- what is behind others is not one of them, or at an index of them
  pub last_there : (xs : List X) (x : X) → slice_get (xs ++ x ∷ []) (length xs) ≡ Some x
  last_there [] x = refl
  last_there (y ∷ ys) x = last_there ys x

  pub other_index : (xs : List X) (x : X) (i : ℕ) → (i ≡ length xs) ⊎ (slice_get (xs ++ x ∷ []) i ≡ slice_get xs i)
  other_index [] x zero = inl refl
  other_index [] x (suc i) = inr refl
  other_index (y ∷ ys) x zero = inr refl
  other_index (y ∷ ys) x (suc i) = elim (other_index ys x i) [ inl is ↦ inl (ap suc is) | inr same ↦ inr same ]

  pub none_behind_all : (xs : List X) → slice_get xs (length xs) ≡ None
  none_behind_all [] = refl
  none_behind_all (x ∷ xs) = none_behind_all xs

module _ {K V : Type 0} where
  pub keys_with : (es : List (K × V)) (e : K × V) → keys_of (es ++ e ∷ []) ≡ keys_of es ++ e.0 ∷ []
  keys_with [] e = refl
  keys_with (d ∷ es) e = ap (λ ks. d.0 ∷ ks) (keys_with es e)

  pub length_keys : (es : List (K × V)) → length (keys_of es) ≡ length es
  length_keys [] = refl
  length_keys (e ∷ es) = ap suc (length_keys es)

  -- one value is written, and the others stay
  module _ (es : List (K × V)) (n : ℕ) (key : K) (had has : V) (here : slice_get es n ≡ Some (key, had)) where
    pub written_there : slice_get (set_value_at es n has) n ≡ Some (key, has)
    written_there = by es n here
      where
        by : (ds : List (K × V)) (m : ℕ) → slice_get ds m ≡ Some (key, had)
            → slice_get (set_value_at ds m has) m ≡ Some (key, has)
        by [] m at = absurd (none-some (key, had) at)
        by (e ∷ ds) zero at = ap (λ (d : K × V). Some (d.0, has)) (same_Some e (key, had) at)
        by (e ∷ ds) (suc m) at = by ds m at

    pub others_there : (m : ℕ) → (m ≡ n) ⊎ (slice_get (set_value_at es n has) m ≡ slice_get es m)
    others_there m = by es n m
      where
        by : (ds : List (K × V)) (k m : ℕ) → (m ≡ k) ⊎ (slice_get (set_value_at ds k has) m ≡ slice_get ds m)
        by [] k m = inr refl
        by (e ∷ ds) zero zero = inl refl
        by (e ∷ ds) zero (suc m) = inr refl
        by (e ∷ ds) (suc k) zero = inr refl
        by (e ∷ ds) (suc k) (suc m) = elim (by ds k m) [ inl is ↦ inl (ap suc is) | inr same ↦ inr same ]

  pub keys_written : (es : List (K × V)) (n : ℕ) (has : V) → keys_of (set_value_at es n has) ≡ keys_of es
  keys_written [] n has = refl
  keys_written (e ∷ es) zero has = refl
  keys_written (e ∷ es) (suc n) has = ap (λ ks. e.0 ∷ ks) (keys_written es n has)

  module _ (eq : K → K → Bool) where
    -- a key that is not found has no entry
    pub not_found : (es : List (K × V)) (k : K) → eq k k ≡ true → lookup (eq k) es ≡ None
        → (i : ℕ) → slice_get (keys_of es) i ≡ Some k → ⊥
    not_found [] k same none i at = none-some k at
    not_found (e ∷ es) k same none zero at =
        none-some e.1 (sym none ∙ ap (λ b. cond b (Some e.1) (lookup (eq k) es)) (ap (eq k) (same_Some e.0 k at) ∙ same))
    not_found (e ∷ es) k same none (suc i) at =
        by (eq k e.0) (lookup (eq k) es) none (λ rest. not_found es k same rest i at)
      where
        by : (b : Bool) (o : Option V) → cond b (Some e.1) o ≡ None → (o ≡ None → ⊥) → ⊥
        by true o is rest = none-some e.1 (sym is)
        by false o is rest = rest is

    -- and one that is found has one
    pub found_at : ((x y : K) → eq x y ≡ true → x ≡ y) → (es : List (K × V)) (k : K) (v : V) → lookup (eq k) es ≡ Some v
        → (i : ℕ) × (slice_get es i ≡ Some (k, v))
    found_at exact [] k v is = absurd (none-some v is)
    found_at exact (e ∷ es) k v is = by (eq k e.0) refl is (found_at exact es k v)
      where
        by : (b : Bool) → eq k e.0 ≡ b → cond b (Some e.1) (lookup (eq k) es) ≡ Some v
            → (lookup (eq k) es ≡ Some v → (n : ℕ) × (slice_get es n ≡ Some (k, v)))
            → (n : ℕ) × (slice_get (e ∷ es) n ≡ Some (k, v))
        by true f at rest = (0, λ i. Some (sym (exact k e.0 f) i, same_Some e.1 v at i))
        by false f at rest = let (n, there) = rest at in (suc n, there)

pub is_none : {X : Type 0} (o : Option X) → is_some o ≡ false → o ≡ None
is_none None e = refl
is_none (Some x) e = absurd (true≢false e)

-- what holds after a call, whatever its answer
pub either_way : {X E P Q : Type 0} (r : Result X E) → OnOk r P → OnErr r Q → P ⊎ Q
either_way (Ok x) ok err = inl ok
either_way (Err e) ok err = inr err

-- what holds by a flag
pub on_false : {P : Type 0} (b : Bool) → b ≡ false → OnFalse b P → P
on_false {P} b is told = subst (λ c. OnFalse c P) is told

pub on_true : {P : Type 0} (b : Bool) → b ≡ true → OnTrue b P → P
on_true {P} b is told = subst (λ c. OnTrue c P) is told

-- owners, with one more
module _ (owned : List ℕ) (new : ℕ) where
  abbrev more : List ℕ
  more = owned ++ new ∷ []

  -- a link from before leads where it led
  pub link_stays : (owner bound link : ℕ) → bound ≤ length owned → IsLink owned owner bound link → IsLink more owner bound link
  link_stays owner bound link within (rest, there) = (
    λ at less is. elim (other_index owned new at) [
      | inl last ↦ absurd (omega (arith, last, less, within))
      | inr same ↦ rest at less (sym same ∙ is)
    ],
    λ at is. let (less, here) = there at is in elim (other_index owned new at) [
      | inl last ↦ absurd (omega (arith, last, less, within))
      | inr same ↦ (less, same ∙ here)
    ],
  )

  -- the new one is the last of its owner
  pub link_new : (bound link : ℕ) → bound ≡ length owned + 1 → link ≡ length owned + 1 → IsLink more new bound link
  link_new bound link is_bound is_link = (
    λ at less is. omega (arith, less, is_bound, is_link),
    λ at is.
        let same : at ≡ length owned = omega (arith, is, is_link) in
        (omega (arith, is, is_link, is_bound), ap (slice_get more) same ∙ last_there owned new),
  )

  -- and the last of the others are the same
  pub link_other : (owner before bound link : ℕ) → before ≡ length owned → bound ≡ length owned + 1 → (owner ≡ new → ⊥)
      → IsLink owned owner before link → IsLink more owner bound link
  link_other owner before bound link all one_more apart (rest, there) = (
    λ at less is. elim (other_index owned new at) [
      | inl last ↦
          absurd (apart (sym (same_Some new owner (sym (last_there owned new) ∙ ap (slice_get more) (sym last) ∙ is))))
      | inr same ↦
          let here = sym same ∙ is in
          let within = slice_get_within owned at owner here in
          rest at (omega (arith, within, all)) here
    ],
    λ at is. let (less, here) = there at is in elim (other_index owned new at) [
      | inl last ↦ absurd (omega (arith, last, less, all))
      | inr same ↦ (omega (arith, less, all, one_more), same ∙ here)
    ],
  )

-- the owners of pairs, with one more
pub owners_with : (pairs : List ((ℕ × Exit) × ℕ)) (new : (ℕ × Exit) × ℕ) → owners (pairs ++ new ∷ []) ≡ owners pairs ++ new.0.0 ∷ []
owners_with [] new = refl
owners_with (p ∷ pairs) new = ap (λ os. p.0.0 ∷ os) (owners_with pairs new)

pub length_owners : (pairs : List ((ℕ × Exit) × ℕ)) → length (owners pairs) ≡ length pairs
length_owners [] = refl
length_owners (p ∷ pairs) = ap suc (length_owners pairs)

-- an entry that is added has no pairs yet
module _ (entries : List (ℕ × KnownEntry)) (pairs : List ((ℕ × Exit) × ℕ)) (owned : AreOwned entries pairs) (entry : ℕ)
    (fresh : KnownEntry) (no_last : fresh.last ≡ 0) where
  abbrev entries_more : List (ℕ × KnownEntry)
  entries_more = entries ++ (entry, fresh) ∷ []

  pub owned_still : AreOwned entries_more pairs
  owned_still at owner is =
      let within = owned at owner is in
      let long = length-append entries ((entry, fresh) ∷ []) in omega (arith, within, long)

  pub last_with_none : AreLastLinks entries pairs → AreLastLinks entries_more pairs
  last_with_none last owner other known is = elim (other_index entries (entry, fresh) owner) [
    | inr same ↦ last owner other known (sym same ∙ is)
    | inl new ↦
        let none : 0 ≡ known.last =
        sym no_last
        ∙ ap (λ e. e.1.last)
        (same_Some (entry, fresh) (other, known)
        (sym (last_there entries (entry, fresh)) ∙ ap (slice_get entries_more) (sym new) ∙ is)) in (
          λ at less here. let within = owned at owner here in absurd (omega (arith, within, new)),
          λ at back. absurd (omega (arith, back, none)),
        )
  ]

-- so with the entry or without it what is known of links stays
pub linked_still : (entries after : List (ℕ × KnownEntry)) (pairs : List ((ℕ × Exit) × ℕ)) (entry : ℕ) (fresh : KnownEntry)
    → fresh.last ≡ 0 → (after ≡ entries ++ (entry, fresh) ∷ []) ⊎ (after ≡ entries) → AreOwned entries pairs → AreLastLinks entries pairs
    → AreOwned after pairs × AreLastLinks after pairs
linked_still entries after pairs entry fresh no_last (inl more) owned last =
    subst (λ es. AreOwned es pairs × AreLastLinks es pairs) (sym more)
    (owned_still entries pairs owned entry fresh no_last, last_with_none entries pairs owned entry fresh no_last last)
linked_still entries after pairs entry fresh no_last (inr same) owned last =
    subst (λ es. AreOwned es pairs × AreLastLinks es pairs) (sym same) (owned, last)

-- a pair is added to an entry at this index, behind the last one that it had
module _ (entries : List (ℕ × KnownEntry)) (pairs : List ((ℕ × Exit) × ℕ)) (n entry : ℕ) (had : KnownEntry) (left : Exit)
    (here : slice_get entries n ≡ Some (entry, had)) where
  abbrev new : (ℕ × Exit) × ℕ
  new = ((n, left), had.last)

  abbrev pairs_more : List ((ℕ × Exit) × ℕ)
  pairs_more = pairs ++ new ∷ []

  long : length pairs_more ≡ length pairs + 1
  long = length-append pairs (new ∷ [])

  pub owned_more : (has : KnownEntry) → AreOwned entries pairs → AreOwned (set_value_at entries n has) pairs_more
  owned_more has owned at owner is = elim (other_index (owners pairs) n at) [
    | inl last ↦
        let same : n ≡ owner =
        same_Some n owner
        (sym (last_there (owners pairs) n) ∙ ap (slice_get (owners pairs ++ n ∷ [])) (sym last)
        ∙ sym (ap (λ os. slice_get os at) (owners_with pairs new)) ∙ is) in
        let within = slice_get_within entries n (entry, had) here in
        let stays = length-set_value_at entries n has in
        omega (arith, same, within, stays)
    | inr was ↦
        let within = owned at owner (sym was ∙ sym (ap (λ os. slice_get os at) (owners_with pairs new)) ∙ is) in
        let stays = length-set_value_at entries n has in
        omega (arith, within, stays)
  ]

  pub last_more : (has : KnownEntry) → has.last ≡ length pairs + 1 → AreLastLinks entries pairs
      → AreLastLinks (set_value_at entries n has) pairs_more
  last_more has is_link last owner known its is =
      subst (λ os. IsLink os owner (length pairs_more) its.last) (sym (owners_with pairs new)) (by (nat_eq owner n) refl)
    where
      by : (b : Bool) → nat_eq owner n ≡ b → IsLink (owners pairs ++ n ∷ []) owner (length pairs_more) its.last
      by true e =
          let same = exact_unsigned_eq owner n e in
          let value : has.last ≡ its.last =
          ap (λ e. e.1.last) (same_Some (entry, has) (known, its)
          (sym (written_there entries n entry had has here) ∙ ap (slice_get (set_value_at entries n has)) (sym same) ∙ is)) in
          let count = length_owners pairs in
          let more_long = long in
          subst (λ o. IsLink (owners pairs ++ n ∷ []) o (length pairs_more) its.last) (sym same)
          (link_new (owners pairs) n (length pairs_more) its.last (omega (arith, count, more_long)) (omega (arith, count, value, is_link)))
      by false e =
          let apart : owner ≡ n → ⊥ = λ same. true≢false (sym (ap (λ m. nat_eq m n) same ∙ nat_itself n) ∙ e) in
          elim (others_there entries n entry had has here owner) [
            | inl same ↦ absurd (apart same)
            | inr was ↦
                let count = length_owners pairs in
                let more_long = long in
                link_other (owners pairs) n owner (length pairs) (length pairs_more) its.last (omega (arith, count))
                (omega (arith, count, more_long)) apart (last owner known its (sym was ∙ is))
          ]

  pub linked_more : AreLastLinks entries pairs → AreLinked pairs → AreLinked pairs_more
  linked_more last linked at owner b link is =
      subst (λ os. IsLink os owner at link) (sym (owners_with pairs new)) (elim (other_index pairs new at) [
        | inl end ↦
            let whole : new ≡ ((owner, b), link) =
            same_Some new ((owner, b), link) (sym (last_there pairs new) ∙ ap (slice_get pairs_more) (sym end) ∙ is) in
            let count = length_owners pairs in
            subst (λ (e : (ℕ × Exit) × ℕ). IsLink (owners pairs ++ n ∷ []) e.0.0 at e.1) whole
            (link_stays (owners pairs) n n at had.last (omega (arith, count, end))
            (subst (λ m. IsLink (owners pairs) n m had.last) (sym end) (last n entry had here)))
        | inr was ↦
            let there = sym was ∙ is in
            let less = slice_get_within pairs at ((owner, b), link) there in
            let count = length_owners pairs in
            link_stays (owners pairs) n owner at link (omega (arith, count, less)) (linked at owner b link there)
      ])

  -- so with it all is linked
  pub links_after : (has : KnownEntry) (after : List ((ℕ × Exit) × ℕ)) → has.last ≡ length pairs + 1 → after ≡ pairs_more
      → AreOwned entries pairs → AreLastLinks entries pairs → AreLinked pairs
      → AreOwned (set_value_at entries n has) after × AreLastLinks (set_value_at entries n has) after × AreLinked after
  links_after has after is_link is owned last linked =
      subst (λ ps. AreOwned (set_value_at entries n has) ps × AreLastLinks (set_value_at entries n has) ps × AreLinked ps) (sym is)
      (owned_more has owned, last_more has is_link last, linked_more last linked)

-- the same pairs are linked the same
pub links_same : (entries : List (ℕ × KnownEntry)) (pairs after : List ((ℕ × Exit) × ℕ)) → after ≡ pairs
    → AreOwned entries pairs → AreLastLinks entries pairs → AreLinked pairs
    → AreOwned entries after × AreLastLinks entries after × AreLinked after
links_same entries pairs after is owned last linked =
    subst (λ ps. AreOwned entries ps × AreLastLinks entries ps × AreLinked ps) (sym is) (owned, last, linked)
