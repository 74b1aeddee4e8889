-- What is found by a key.
use Rattle.std.specs.Prelude.{◌≡◌, ℕ, Bool, true, false, List, [], ◌∷◌, Option, None, Some, slice_get}
use Rattle.indexmap.specs.IndexMap.{IndexMap, get}
use Rattle.groups.specs.declared.values.Values.{Values}
use Rattle.groups.specs.declared.values.Values.TheVariants.{One, Many}

-- the values, in the order of adding
abbrev pub values_in : {Value Alloc : Type 0} → Values Value Alloc → List Value
values_in (One value) = value ∷ []
values_in (Many many) = many.items

-- the values, if there are any
abbrev pub values_if_any : {Value Alloc : Type 0} → Option (Values Value Alloc) → List Value
values_if_any None = []
values_if_any (Some values) = values_in values

-- the values that were added to the key, in the order of adding
abbrev pub under : {Key Value Alloc Edges : Type 0} → (Key → Key → Bool) → IndexMap Key (Values Value Alloc) Edges → Key → List Value
under eq map key = values_if_any (get eq map key)

-- the key at this place is this key, as far as `eq` tells keys apart
abbrev pub IsKeyAt : {Key : Type 0} → (Key → Key → Bool) → List Key → Key → ℕ → Type 0
IsKeyAt {Key} eq keys key at = (known : Key) × (slice_get keys at ≡ Some known) × (eq key known ≡ true)

module _ {Key X : Type 0} where
  -- each key has what it had
  abbrev pub AllStay : (Key → X) → (Key → X) → Type 0
  AllStay old new = (key : Key) → new key ≡ old key

  -- each key but this one has what it had
  abbrev pub OthersStay : (Key → Key → Bool) → Key → (Key → X) → (Key → X) → Type 0
  OthersStay eq key old new = (other : Key) → eq key other ≡ false → new other ≡ old other
