-- Values as the bits of a number, the first value in bit 0.
use Rattle.std.specs.Prelude.{ℕ, ◌+◌, ◌*◌, Bool, true, false, not, List, [], ◌∷◌, ◌==◌}
use Rattle.std.specs.Int.{bit_at}
use Rattle.std.specs.Int.RustNames.{bit_and}

-- whether bit i of the number is 1
abbrev pub bit_of : ℕ → ℕ → Bool
bit_of n i = bit_at n i == 1

-- whether some bit of the mask is 1 in the number
abbrev pub has_any : ℕ → ℕ → Bool
has_any n mask = not (bit_and n mask == 0)

-- 1 for a value that is 1
abbrev pub worth_of : Bool → ℕ
worth_of true = 1
worth_of false = 0

-- the number whose bits are the values
abbrev pub coded : List Bool → ℕ
coded [] = 0
coded (b ∷ bs) = worth_of b + 2 * coded bs
