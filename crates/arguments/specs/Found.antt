-- What was found for an argument.
use Rattle.std.specs.Prelude.{◌≡◌, ℕ, Bool, List, Some, true, false, codes}
use Rattle.std.specs.Str.Parse.{IsNumeral, digits_value, without_leading_plus}
use Rattle.clap.specs.Words.{Row, Text, one_of}

-- The text reads as the number.
abbrev pub IsNumber : Text → ℕ → Type 0
IsNumber t n = IsNumeral 10 (without_leading_plus t) × (digits_value 10 (without_leading_plus t) ≡ n)

-- The value that was found for this option, given or by default, reads as the number.
abbrev pub ReadsNumber : List Row → Text → ℕ → Type 0
ReadsNumber rows id n = (t : Text) × (one_of id rows ≡ Some t) × IsNumber t n

-- what is found for an option without a value: that it was given, or that it was not
abbrev pub flag_text : Bool → Text
flag_text true = codes "true"
flag_text false = codes "false"

-- The option without a value was given, or it was not.
abbrev pub IsGiven : List Row → Text → Bool → Type 0
IsGiven rows id given = one_of id rows ≡ Some (flag_text given)
