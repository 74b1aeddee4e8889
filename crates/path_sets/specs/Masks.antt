-- Sets of 64 points as masks: bit i of the number is 1 if point i of a block is in the set.
use Rattle.std.specs.Prelude.{◌≡◌, ◌≢◌, ℕ, zero, suc, Bool, true, false, cond, List, [], ◌∷◌, ◌==◌, Some, slice_get}
use Rattle.std.specs.Int.{bit_at}
use Rattle.std.specs.Map.{values_of}
use Rattle.indexmap.specs.IndexMap.{set_value_at}

-- whether bit i of the mask is 1
abbrev pub bit_of : ℕ → ℕ → Bool
bit_of mask i = bit_at mask i == 1

-- the bits below this one that are 1, the highest first
abbrev pub bits_below : ℕ → ℕ → List ℕ
bits_below mask zero = []
bits_below mask (suc n) = cond (bit_of mask n) (n ∷ bits_below mask n) (bits_below mask n)

-- The bit was 0, and is 1, and the others are as they were; or it was 1, and the mask is as it was. The result says
-- which.
abbrev pub AddsPoint : ℕ → ℕ → ℕ → Bool → Type 0
AddsPoint bit old new true =
    (bit_of old bit ≡ false) × (bit_of new bit ≡ true) × ((i : ℕ) → i ≢ bit → bit_of new i ≡ bit_of old i)
AddsPoint bit old new false = (bit_of old bit ≡ true) × (new ≡ old)

-- The mask at an index is another, with a point put into it, and the other masks are as they were.
pub record AddsPointAt {Key : Type 0} (at bit : ℕ) (old new : List (Key × ℕ)) (added : Bool) : Type 0 where
  pub mask : ℕ
  pub marked : ℕ
  pub was : slice_get (values_of old) at ≡ Some mask
  pub is : new ≡ set_value_at old at marked
  pub marks : AddsPoint bit mask marked added
