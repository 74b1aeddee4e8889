-- Keys.
use Rattle.std.specs.Prelude.{◌≡◌, Bool, true}

-- keys that compare as equal are the same
abbrev pub IsExact : {Key : Type 0} → (Key → Key → Bool) → Type 0
IsExact {Key} eq = (one other : Key) → eq one other ≡ true → one ≡ other
