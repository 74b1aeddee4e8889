-- How the name of a file is written in a message.
use Rattle.std.specs.Prelude.{◌≡◌, ℕ, ◌/◌, ◌%◌, ◌==◌, false, List, [], ◌∷◌, ◌++◌, codes, if◌then◌else◌}
use Rattle.std.specs.Char.{encode_utf8, is_control}
use Rattle.std.specs.Fmt.{digit_glyph}
use Rattle.std.specs.List.{All, flat_map}
use Rattle.std.specs.Str.{chars}

-- the escape of a character below 256 by its code: `\x` and two hexadecimal digits
abbrev pub by_code : ℕ → List ℕ
by_code c = codes "\\x" ++ (digit_glyph false (c / 16) ∷ digit_glyph false (c % 16) ∷ [])

-- the escape of a control character: `\t`, `\n`, `\r`, or else the one by its code
abbrev pub escape : ℕ → List ℕ
escape c = if c == 9 then codes "\\t" else if c == 10 then codes "\\n" else if c == 13 then codes "\\r" else by_code c

-- what is written for a character: the escape of a control character, and any other character as it is
abbrev pub written : ℕ → List ℕ
written c = if is_control c then escape c else encode_utf8 c

-- a name with an escape for each control character, and every other character as it is
unfoldable pub escaped : List ℕ → List ℕ
escaped name = flat_map written (chars name)

-- No character of the text is a control character.
abbrev pub HasNoControl : List ℕ → Type 0
HasNoControl text = All (λ c. is_control c ≡ false) (chars text)
