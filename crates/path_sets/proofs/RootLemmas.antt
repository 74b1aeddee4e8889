-- The numbers of diagrams after one is given, and their indexes.
use Rattle.std.proofs.Common.{◌≡◌, ℕ, ◌<◌, Bool, true, false, cond, List, [], ◌∷◌, ◌++◌}
use Rattle.std.proofs.Common.{Option, None}
use Rattle.std.proofs.Common.{Some, IfSome, get_or, length, ◌⊎◌, inl, inr, subst, arith}
use Rattle.std.proofs.Common.{slice_get, position, refl, sym, ap, ◌∙◌, true≢false}
use Rattle.std.specs.Option.{option_map, option_map_or}
use Rattle.std.proofs.lemmas.Bool.{cases_eq}
use Rattle.std.specs.Map.{keys_of, lookup}
use Rattle.std.specs.Cmp.{IsEquivalence}
use Rattle.path_sets.specs.declared.diagrams.roots.DiagramKey.{DiagramKey}
use Rattle.path_sets.specs.Diagrams.{diagram_eq, root_of, GivesRoot}
use Rattle.path_sets.specs.Insertions.{RootsStay}
use Rattle.std.proofs.lemmas.List.Quantifiers.{position-Some}
use Rattle.std.proofs.lemmas.Map.Entries.{length-keys_of}
use Rattle.std.proofs.lemmas.List.{map-append}
use Rattle.std.proofs.lemmas.Option.{slice_get-get_or, slice_get-map, slice_get_within}
use Rattle.path_sets.proofs.MaskKeyLemmas.{same_by_two, two_self}
use Rattle.path_sets.proofs.PlaceLemmas.{item_there, still_there}

-- a test that tells values apart is an equivalence
module _ {K : Type 0} (eq : K → K → Bool) (self : (x : K) → eq x x ≡ true) (same : (x y : K) → eq x y ≡ true → x ≡ y) where
  pub equivalence : IsEquivalence eq
  equivalence = record {
    refl = self;
    symm = λ x y. turned x y (eq x y) (eq y x) refl refl;
    congr = λ x y z h. ap (λ k. eq k z) (same x y h);
  }
    where
      turned : (x y : K) (a b : Bool) → eq x y ≡ a → eq y x ≡ b → eq x y ≡ eq y x
      turned x y true b h h' = h ∙ sym (ap (λ k. eq k x) (sym (same x y h)) ∙ self x)
      turned x y false true h h' = absurd (true≢false (sym (ap (λ k. eq k y) (sym (same y x h')) ∙ self y) ∙ h))
      turned x y false false h h' = h ∙ sym h'

  -- the key that is looked up is at the index that is found
  pub found : (ks : List K) (i : ℕ) (k : K) → Some i ≡ position (eq k) ks → slice_get ks i ≡ Some k
  found ks i k h =
      let r = position-Some (eq k) ks i k (sym h) in
      slice_get-get_or ks i k r.0 ∙ ap Some (sym (same k (get_or ks i k) r.1))

  pub found_if : (ks : List K) (k : K) (o : Option ℕ) → o ≡ position (eq k) ks → IfSome o (λ i. slice_get ks i ≡ Some k)
  found_if ks k None h = tt
  found_if ks k (Some i) h = found ks i k h

pub diagram_self : (x : DiagramKey) → diagram_eq x x ≡ true
diagram_self x = two_self x.entry x.block

pub same_diagram : (x y : DiagramKey) → diagram_eq x y ≡ true → x ≡ y
same_diagram x y = same_by_two (λ e b. record { entry = e; block = b }) x.entry x.block y.entry y.block

pub diagram_laws : IsEquivalence diagram_eq
diagram_laws = equivalence diagram_eq diagram_self same_diagram

module _ (old new : List (DiagramKey × ℕ)) (own : DiagramKey) (number : ℕ)
    (updates : (q : DiagramKey) → lookup (diagram_eq q) new ≡ cond (diagram_eq own q) (Some number) (lookup (diagram_eq q) old)) where
  others' : (e b : ℕ) → ((e ≡ own.entry) × (b ≡ own.block) → ⊥) → root_of new e b ≡ root_of old e b
  others' e b ne = by (diagram_eq own other) refl
    where
      other : DiagramKey
      other = record { entry = e; block = b }

      by : (t : Bool) → diagram_eq own other ≡ t → root_of new e b ≡ root_of old e b
      by true h =
          let same : own ≡ other = same_diagram own other h in
          absurd (ne (sym (ap (λ (r : DiagramKey). r.entry) same), sym (ap (λ (r : DiagramKey). r.block) same)))
      by false h =
          ap (λ o. option_map_or (λ n. n) o 0) (updates other ∙ ap (λ t. cond t (Some number) (lookup (diagram_eq other) old)) h)

  pub roots : GivesRoot old own number new
  roots = record {
    here = ap (λ o. option_map_or (λ n. n) o 0)
        (updates own ∙ ap (λ b. cond b (Some number) (lookup (diagram_eq own) old)) (diagram_self own));
    others = others';
  }

-- a number is that of a diagram's point, or it is not
pub is_diagram : (e b : ℕ) (diagram : DiagramKey)
    → ((e ≡ diagram.entry) × (b ≡ diagram.block)) ⊎ ((e ≡ diagram.entry) × (b ≡ diagram.block) → ⊥)
is_diagram e b diagram = elim (cases_eq e diagram.entry) [
  | inr ne ↦ inr (λ h. ne h.0)
  | inl same ↦ elim (cases_eq b diagram.block) [ inr ne ↦ inr (λ h. ne h.1) | inl same' ↦ inl (same, same') ]
]

-- the key of an entry
pub key_at : {K V : Type 0} (es : List (K × V)) (i : ℕ) (e : K × V) → slice_get es i ≡ Some e
    → slice_get (keys_of es) i ≡ Some e.0
key_at es i e h = slice_get-map (λ p. p.0) es i ∙ ap (option_map (λ p. p.0)) h

-- there is a diagram at each index
pub diagram_there : (rs : List (DiagramKey × ℕ)) (i : ℕ) → i < length rs
    → (diagram : DiagramKey) × (slice_get (keys_of rs) i ≡ Some diagram)
diagram_there rs i less = item_there (keys_of rs) i (omega (arith, less, length-keys_of rs))

-- and at no other
pub key_within : {K V : Type 0} (es : List (K × V)) (i : ℕ) (k : K) → slice_get (keys_of es) i ≡ Some k → i < length es
key_within es i k h = omega (arith, slice_get_within (keys_of es) i k h, length-keys_of es)

-- a diagram that had no diagram gets the one with nothing, and each diagram has the number that it had
pub diagram_begins : (old new : List (DiagramKey × ℕ)) (diagram : DiagramKey) → lookup (diagram_eq diagram) old ≡ None
    → new ≡ old ++ (diagram, 0) ∷ []
    → GivesRoot old diagram 0 new
    → RootsStay old new
diagram_begins old new diagram none is given = record {
  indexes = λ i r h. subst (λ es. slice_get (keys_of es) i ≡ Some r) (sym is)
      (subst (λ ks. slice_get ks i ≡ Some r) (sym (map-append (λ (p : DiagramKey × ℕ). p.0) old ((diagram, 0) ∷ [])))
      (still_there (keys_of old) (diagram ∷ []) i r h));
  numbers = λ e b. elim (is_diagram e b diagram) [
    | inl (at, at') ↦
        (λ j. root_of new (at j) (at' j)) ∙ given.here ∙ sym (ap (λ o. option_map_or (λ n. n) o 0) none)
        ∙ sym (λ j. root_of old (at j) (at' j))
    | inr ne ↦ given.others e b ne
  ];
}

-- diagrams that are the same have the same indexes
pub same_within : (rs ss : List (DiagramKey × ℕ)) (i : ℕ) → keys_of ss ≡ keys_of rs → i < length rs → i < length ss
same_within rs ss i same less =
    let (diagram, there) = diagram_there rs i less in
    key_within ss i diagram (ap (λ ks. slice_get ks i) same ∙ there)
