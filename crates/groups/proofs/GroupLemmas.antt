-- What is found by keys after a value of a map was written.
use Rattle.std.proofs.Common.{◌≡◌, ℕ, Bool, true, false, cond, List, [], ◌∷◌, Option, None, Some, slice_get, unwrap_or}
use Rattle.std.proofs.Common.{zero, suc, length, not, refl, sym, ap, ◌∙◌, arith, true≢false}
use Rattle.std.specs.Prelude.{Result, Ok, Err, OnErr}
use Rattle.std.specs.Bool.{◌==◌, OnFalse}
use Rattle.std.specs.Cmp.{IsEquivalence}
use Rattle.std.specs.List.{position_or_len}
use Rattle.std.specs.Map.{keys_of, values_of, lookup}
use Rattle.std.proofs.lemmas.Bool.{ne_eqb}
use Rattle.std.proofs.lemmas.Option.{none-some, same_Some}
use Rattle.indexmap.specs.IndexMap.{insert_entry}
use Rattle.indexmap.specs.IndexSet.{insert_key}
use Rattle.indexmap.proofs.SetLemmas.{keys_insert_entry, inserted_at}

-- what a key finds after an insertion
module _ {K V : Type 0} {eq : K → K → Bool} (laws : IsEquivalence eq) where
  lookup_inserted : (es : List (K × V)) (k : K) (v : V) (j : K)
      → lookup (eq j) (insert_entry eq es k v) ≡ cond (eq k j) (Some v) (lookup (eq j) es)
  lookup_inserted [] k v j = ap (λ b. cond b (Some v) None) (laws.symm j k)
  lookup_inserted (e ∷ es) k v j = by (eq k e.0) refl (eq k j) refl (lookup_inserted es k v j)
    where
      by : (b : Bool) → eq k e.0 ≡ b → (n : Bool) → eq k j ≡ n
          → lookup (eq j) (insert_entry eq es k v) ≡ cond (eq k j) (Some v) (lookup (eq j) es)
          → lookup (eq j) (cond b ((e.0, v) ∷ es) (e ∷ insert_entry eq es k v))
          ≡ cond n (Some v) (cond (eq j e.0) (Some e.1) (lookup (eq j) es))
      by true here true same rest = ap (λ b. cond b (Some v) (lookup (eq j) es)) (sym (laws.congr k j e.0 same) ∙ here)
      by true here false apart rest =
          let other = laws.symm j e.0 ∙ sym (laws.congr k e.0 j here) ∙ apart in
          ap (λ b. cond b (Some v) (lookup (eq j) es)) other ∙ sym (ap (λ b. cond b (Some e.1) (lookup (eq j) es)) other)
      by false there true same rest =
          ap (λ b. cond b (Some e.1) (lookup (eq j) (insert_entry eq es k v))) (sym (laws.congr k j e.0 same) ∙ there)
          ∙ rest ∙ ap (λ b. cond b (Some v) (lookup (eq j) es)) same
      by false there false apart rest =
          ap (λ o. cond (eq j e.0) (Some e.1) o) (rest ∙ ap (λ b. cond b (Some v) (lookup (eq j) es)) apart)

  pub lookup_after : (es fs : List (K × V)) (k : K) (v : V) → fs ≡ insert_entry eq es k v
      → (j : K) → lookup (eq j) fs ≡ cond (eq k j) (Some v) (lookup (eq j) es)
  lookup_after es fs k v is j = ap (lookup (eq j)) is ∙ lookup_inserted es k v j

-- something of a value, or of none, that was written to the key k
module _ {K V X : Type 0} (eq : K → K → Bool) (of : Option V → X) (es fs : List (K × V)) (k : K) (new : V)
    (is : (j : K) → lookup (eq j) fs ≡ cond (eq k j) (Some new) (lookup (eq j) es)) where
  -- each key has what it had, if that of k is the same
  pub same_after : IsEquivalence eq → of (Some new) ≡ of (lookup (eq k) es) → (j : K) → of (lookup (eq j) fs) ≡ of (lookup (eq j) es)
  same_after laws same j = ap of (is j) ∙ by (eq k j) refl
    where
      by : (b : Bool) → eq k j ≡ b → of (cond b (Some new) (lookup (eq j) es)) ≡ of (lookup (eq j) es)
      by true e = same ∙ ap of (λ n. lookup (λ x. laws.congr k j x e n) es)
      by false e = refl

  -- so the functions of keys are the same
  pub all_after : IsEquivalence eq → of (Some new) ≡ of (lookup (eq k) es)
      → ◌≡◌ {A = K → X} (λ j. of (lookup (eq j) fs)) (λ j. of (lookup (eq j) es))
  all_after laws same = λ n j. same_after laws same j n

  -- the key that was written has what the new value has
  pub added_after : eq k k ≡ true → (x : X) → of (Some new) ≡ x → of (lookup (eq k) fs) ≡ x
  added_after same x grown = ap of (is k) ∙ (λ j. of (cond (same j) (Some new) (lookup (eq k) es))) ∙ grown

  -- and each other key what it had
  pub others_after : (j : K) → eq k j ≡ false → of (lookup (eq j) fs) ≡ of (lookup (eq j) es)
  others_after j apart = ap of (is j) ∙ (λ n. of (cond (apart n) (Some new) (lookup (eq j) es)))

module _ {K V : Type 0} (eq : K → K → Bool) (es fs : List (K × V)) (k : K) (v : V)
    (is : fs ≡ insert_entry eq es k v) where
  -- the keys after an insertion
  pub keys_after : keys_of fs ≡ insert_key eq (keys_of es) k
  keys_after = ap keys_of is ∙ keys_insert_entry eq es k v

  -- and the place of the key that was inserted
  pub place_after : ((x : K) → eq x x ≡ true) → (i : ℕ) → i ≡ position_or_len (eq k) (keys_of es)
      → (x : K) × (slice_get (keys_of fs) i ≡ Some x) × (eq k x ≡ true)
  place_after itself i at =
      let (x, here, same) = inserted_at eq itself es k v in
      (x, (λ j. slice_get (keys_of (is j)) (at j)) ∙ here, same)

-- something of a value that stands for none if it is missing
pub of_unwrapped : {V X : Type 0} (of : Option V → X) (found : Option V) (default : V) → of (Some default) ≡ of None
    → of (Some (unwrap_or found default)) ≡ of found
of_unwrapped of None default same = same
of_unwrapped of (Some v) default same = refl

-- where a list is known to be empty
pub if_empty : {X : Type 0} (empty : Bool) (known all : List X) → empty ≡ (length known == 0) → known ≡ all
    → OnFalse (not empty) (all ≡ [])
if_empty false known all is same = tt
if_empty true [] all is same = sym same
if_empty true (x ∷ known) all is same = absurd (true≢false (is ∙ ne_eqb (suc (length known)) 0 (λ e. absurd (omega (arith, e)))))

-- the key of the entry at an index
pub key_at : {K X : Type 0} (es : List (K × X)) (i : ℕ) (e : K × X) → slice_get es i ≡ Some e → slice_get (keys_of es) i ≡ Some e.0
key_at [] i e is = absurd (none-some e is)
key_at (x ∷ es) zero e is = ap (λ p. Some p.0) (same_Some x e is)
key_at (x ∷ es) (suc i) e is = key_at es i e is

-- where no entry is there is no key
pub no_key : {K X : Type 0} (es : List (K × X)) (i : ℕ) (k : K) → slice_get es i ≡ None → slice_get (keys_of es) i ≡ Some k → ⊥
no_key [] i k none here = none-some k here
no_key (e ∷ es) zero k none here = none-some e (sym none)
no_key (e ∷ es) (suc i) k none here = no_key es i k none here

-- the entry at an index, by its key and its value
pub entry_at : {K X : Type 0} (es : List (K × X)) (i : ℕ) (k : K) (v : X) → slice_get (keys_of es) i ≡ Some k
    → slice_get (values_of es) i ≡ Some v → slice_get es i ≡ Some (k, v)
entry_at [] i k v key value = absurd (none-some k key)
entry_at (e ∷ es) zero k v key value = λ j. Some (same_Some e.0 k key j, same_Some e.1 v value j)
entry_at (e ∷ es) (suc i) k v key value = entry_at es i k v key value

-- what holds, holds at an error
pub at_error : {T E P : Type 0} (r : Result T E) → P → OnErr r P
at_error (Ok _) p = tt
at_error (Err _) p = p
