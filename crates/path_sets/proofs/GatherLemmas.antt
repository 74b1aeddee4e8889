-- A point is gathered at a key that has a mask, or at one without.
use Rattle.std.proofs.Common.{◌≡◌, ◌+◌, ◌*◌, ◌<◌, ℕ, suc, zero, Bool, true, false, cond, if◌then◌else◌}
use Rattle.std.proofs.Common.{List, [], ◌∷◌, ◌++◌, Some, None, length, slice_get, inl, refl, sym, ap, ◌∙◌, subst, arith}
use Rattle.std.specs.Map.{keys_of, lookup, values_of}
use Rattle.std.specs.List.{position_or_len}
use Rattle.std.specs.Option.{option_map_or}
use Rattle.std.proofs.lemmas.List.{length_push}
use Rattle.std.proofs.lemmas.Option.{none-some}
use Rattle.indexmap.specs.IndexMap.{insert_entry, set_value_at}
use Rattle.indexmap.proofs.CallerLemmas.{index_map_len-with_value_at, insert_entry-new, keys-with_value_at}
use Rattle.indexmap.proofs.SetLemmas.{inserted_at}
use Rattle.language.specs.Lists.{Member}
use Rattle.path_sets.specs.declared.diagrams.batch.Batch.{Batch}
use Rattle.path_sets.specs.declared.diagrams.diagrams.Diagrams.{Diagrams}
use Rattle.path_sets.specs.declared.diagrams.gathered_key.GatheredKey.{GatheredKey}
use Rattle.path_sets.specs.declared.diagrams.roots.DiagramKey.{DiagramKey}
use Rattle.path_sets.specs.declared.points.mask_key.MaskKey.{MaskKey}
use Rattle.path_sets.specs.Contents.{AreCovered, batch_masks, diagrams_in, GathersEdge, is_merged, IsFirstMask, MayGather}
use Rattle.path_sets.specs.Contents.{NoKeyBut}
use Rattle.path_sets.specs.Edges.{edge_at, mask_edges, mask_key_eq}
use Rattle.path_sets.specs.GatheredKeys.{gathered_key_eq, mask_key_at, mask_key_in, masks_of}
use Rattle.path_sets.specs.Inserts.{PutsIn}
use Rattle.path_sets.specs.Masks.{AddsPoint, AddsPointAt, bit_of}
use Rattle.path_sets.specs.Triples.{triple}
use Rattle.path_sets.proofs.CoverLemmas.{covers_begun, covers_marked, one_more_key, puts_begun, puts_marked}
use Rattle.path_sets.proofs.GatheredKeyLemmas.{gathered_key_self, key_masks, keys_masks, marked_masks, none_there}
use Rattle.path_sets.proofs.GatheredKeyLemmas.{push_masks, same_gathered_key}
use Rattle.path_sets.proofs.PlaceLemmas.{at_index, item_there}

module _ {K V : Type 0} (eq : K → K → Bool) (same : (x y : K) → eq x y ≡ true → x ≡ y) (k : K) (was now : V) where
  -- the value of the key is at an index, and there it is set
  abbrev IsSetIn : List (K × V) → List (K × V) → Type 0
  IsSetIn old new =
      (i : ℕ) × (slice_get (keys_of old) i ≡ Some k) × (slice_get (values_of old) i ≡ Some was) × (new ≡ set_value_at old i now)

  -- a value that is put at a key that has one is set at the key's index
  pub set_at_key : (es : List (K × V)) → lookup (eq k) es ≡ Some was → IsSetIn es (insert_entry eq es k now)
  set_at_key [] had = absurd (none-some was had)
  set_at_key (e ∷ es) had = by (eq k e.0) refl had (set_at_key es)
    where
      by : (b : Bool) → eq k e.0 ≡ b → cond b (Some e.1) (lookup (eq k) es) ≡ Some was
          → (lookup (eq k) es ≡ Some was → IsSetIn es (insert_entry eq es k now))
          → IsSetIn (e ∷ es) (insert_entry eq (e ∷ es) k now)
      by true is here rest =
          (zero, ap Some (sym (same k e.0 is)), here, ap (λ b. if b then (e.0, now) ∷ es else e ∷ insert_entry eq es k now) is)
      by false is here rest =
          let (i, at, value, set) = rest here in
          (suc i, at, value, ap (λ b. if b then (e.0, now) ∷ es else e ∷ insert_entry eq es k now) is ∙ ap (λ l. e ∷ l) set)

-- a key that is put stands at its index
pub put_at : (old new : List (GatheredKey × ℕ)) (key : GatheredKey) (mask : ℕ) → new ≡ insert_entry gathered_key_eq old key mask
    → (at : ℕ) → at ≡ position_or_len (gathered_key_eq key) (keys_of old) → slice_get (keys_of new) at ≡ Some key
put_at old new key mask put at is =
    let (own, here, same) = inserted_at gathered_key_eq gathered_key_self old key mask in
    (λ j. slice_get (keys_of (put j)) (is j)) ∙ here ∙ ap Some (sym (same_gathered_key key own same))

-- the points at a key are those that the diagrams have at it, if they are those of its diagram
pub points_known : {A : Type 0} (merged : Diagrams A) (key : GatheredKey) (mask : ℕ) → key.diagram < length (diagrams_in merged)
    → ((diagram : DiagramKey) (b : ℕ) → slice_get (diagrams_in merged) key.diagram ≡ Some diagram → b < 64
    → bit_of mask b ≡ is_merged merged (triple diagram.entry (64 * diagram.block + b) key.values))
    → (b : ℕ) → b < 64 → bit_of mask b ≡ is_merged merged (edge_at (mask_key_at (diagrams_in merged) key) b)
points_known merged key mask within known b small =
    let (diagram, there) = item_there (diagrams_in merged) key.diagram within in
    known diagram b there small
    ∙ ap (λ o. is_merged merged (edge_at (option_map_or (λ d. mask_key_in d key.values) o
    (mask_key_in (record { entry = 0; block = 0 }) key.values)) b)) (sym there)

-- a number that is the same as another is not greater
pub no_longer : (old new : ℕ) → new ≡ old → old < new → ⊥
no_longer old new same less = omega (arith, same, less)

-- and one more than a number is not that number
pub one_more_not_same : (old new : ℕ) → new ≡ old + 1 → {P : Type 0} → new ≡ old → P
one_more_not_same old new more same = absurd (omega (arith, same, more))

module _ {A : Type 0} {merged : Diagrams A} {key : GatheredKey} {bit : ℕ} {batch : Batch A} (may : MayGather merged key bit batch)
    (new : List (GatheredKey × ℕ)) where
  abbrev old : List (GatheredKey × ℕ)
  old = batch.masks.entries

  abbrev mask_key : MaskKey
  mask_key = mask_key_at (diagrams_in merged) key

  -- nothing is put in
  module _ (same : new ≡ old) where
    pub covers_same : AreCovered merged (masks_of (diagrams_in merged) new)
    covers_same = subst (λ es. AreCovered merged (masks_of (diagrams_in merged) es)) (sym same) may.covers

    pub keys_same : NoKeyBut key old new
    keys_same other m = inl (subst (λ es. Member other (keys_of es)) same m)

    pub gathers_known : is_merged merged (edge_at mask_key bit) ≡ true
        → GathersEdge merged key bit (batch_masks merged batch) (masks_of (diagrams_in merged) new) false
    gathers_known known = record { puts = (inl known, ap (λ es. mask_edges (masks_of (diagrams_in merged) es)) same) }

  -- the point is put into the mask at an index, which is that of the key
  module _ (at : ℕ) (here : slice_get (keys_of old) at ≡ Some key) (added : Bool) (adds : AddsPointAt at bit old new added) where
    same_keys : keys_of new ≡ keys_of old
    same_keys = ap keys_of adds.is ∙ keys-with_value_at batch.masks at adds.marked

    puts : PutsIn (edge_at mask_key bit) (mask_edges (batch_masks merged batch)) (mask_edges (masks_of (diagrams_in merged) new)) added
    puts = marked_masks (diagrams_in merged) merged.unique old new at key bit may.small may.within batch.unique here added adds

    pub gathers_at : GathersEdge merged key bit (batch_masks merged batch) (masks_of (diagrams_in merged) new) added
    gathers_at = record {
      puts = puts_marked _ _ mask_key bit may.small _ (masks_of (diagrams_in merged) new) may.covers
          (key_masks (diagrams_in merged) old key (at_index (keys_of old) key at here)) added puts;
    }

    pub covers_at : AreCovered merged (masks_of (diagrams_in merged) new)
    covers_at = covers_marked _ _ mask_key bit may.small _ _ may.covers added puts (keys_masks (diagrams_in merged) old new same_keys)

    pub keys_at : NoKeyBut key old new
    keys_at other m = inl (subst (Member other) same_keys m)

  -- the key has a mask, to which the point is added
  module _ (added : Bool) (mask : ℕ) (put : new ≡ insert_entry gathered_key_eq old key mask) (was : ℕ)
      (had : lookup (gathered_key_eq key) old ≡ Some was) (adds : AddsPoint bit was mask added) where
    place : (i : ℕ) × (slice_get (keys_of old) i ≡ Some key) × AddsPointAt i bit old new added
    place =
        let (i, at, value, set) = set_at_key gathered_key_eq same_gathered_key key was mask old had in
        (i, at, record { mask = was; marked = mask; was = value; is = put ∙ set; marks = adds })

    pub gathers_more : GathersEdge merged key bit (batch_masks merged batch) (masks_of (diagrams_in merged) new) added
    gathers_more = gathers_at place.0 place.1 added place.2

    pub covers_more : AreCovered merged (masks_of (diagrams_in merged) new)
    covers_more = covers_at place.0 place.1 added place.2

    pub keys_more : NoKeyBut key old new
    keys_more = keys_at place.0 place.1 added place.2

    pub len_more : length new ≡ length old
    len_more =
        let (i, at, value, set) = set_at_key gathered_key_eq same_gathered_key key was mask old had in
        ap length (put ∙ set) ∙ index_map_len-with_value_at batch.masks i mask

  -- the key has none, and gets its first
  module _ (mask : ℕ) (put : new ≡ insert_entry gathered_key_eq old key mask) (without : lookup (gathered_key_eq key) old ≡ None) where
    appended : new ≡ old ++ (key, mask) ∷ []
    appended = put ∙ insert_entry-new gathered_key_eq batch.masks key mask without

    pub len_first : length new ≡ length old + 1
    len_first = ap length appended ∙ length_push old (key, mask)

    made : masks_of (diagrams_in merged) new ≡ batch_masks merged batch ++ (mask_key, mask) ∷ []
    made = ap (masks_of (diagrams_in merged)) appended ∙ push_masks (diagrams_in merged) old ((key, mask) ∷ [])

    none : lookup (mask_key_eq mask_key) (batch_masks merged batch) ≡ None
    none = none_there (diagrams_in merged) merged.unique old key may.diagram may.within without

    pub keys_first : NoKeyBut key old new
    keys_first other m = one_more_key old key other mask (subst (λ es. Member other (keys_of es)) appended m)

    module _ (first : IsFirstMask merged key bit mask) where
      pub gathers_first : GathersEdge merged key bit (batch_masks merged batch) (masks_of (diagrams_in merged) new) true
      gathers_first = record { puts = puts_begun _ _ mask_key bit may.small _ _ may.covers first.0 mask none first.1 first.2 made }

      pub covers_first : AreCovered merged (masks_of (diagrams_in merged) new)
      covers_first = covers_begun _ _ mask_key bit may.small _ _ may.covers first.0 mask none first.1 first.2 made
