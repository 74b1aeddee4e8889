-- What a message about a place of a text says, part by part.
use Rattle.std.specs.Prelude.{◌≡◌, ℕ, ◌-◌, Bool, not, ◌||◌, ◌==◌, List, [], ◌∷◌, ◌++◌, Option, MatchOption}
use Rattle.std.specs.Prelude.{if◌then◌else◌, codes, drop, length, map, nat_eq, nat_le, nat_lt, position, take}
use Rattle.std.specs.Char.{is_ascii_alphanumeric}
use Rattle.std.specs.Fmt.{decimal}
use Rattle.std.specs.Int.{is_in_range}
use Rattle.std.specs.List.{before_first, starts_with}
use Rattle.diagnostics.specs.Name.{escaped}
use Rattle.diagnostics.specs.Position.{IsPosition}
use Rattle.diagnostics.specs.declared.message.Wrong.{Wrong}
use Rattle.diagnostics.specs.declared.message.Wrong.TheVariants.{Edges, NotAscii, Place, Unexpected, Wide, Word}

-- the line and the column of a place: `LINE:COLUMN`
abbrev pub line_and_column : ℕ → ℕ → List ℕ
line_and_column line column = decimal line ++ (codes ":" ++ decimal column)

-- The message is the old one, and the line and the column of the offset.
pub record WritesPlace (text : List ℕ) (at : ℕ) (old new : List ℕ) : Type 0 where
  pub line : ℕ
  pub column : ℕ
  pub before : List ℕ
  pub behind : List ℕ
  pub place : IsPosition text at line column before behind
  pub message : new ≡ old ++ line_and_column line column

-- the beginning of a message about a place: `FILE:LINE:COLUMN: error: `
abbrev pub message_head : List ℕ → ℕ → ℕ → List ℕ
message_head path line column = escaped path ++ (codes ":" ++ (decimal line ++ (codes ":" ++ (decimal column ++ codes ": error: "))))

-- how a byte of a text is shown: a tab and what is printable stay, a carriage return is a blank, and another byte is a
-- question mark
abbrev pub shown : ℕ → ℕ
shown byte = if byte == 9 || is_in_range 32 126 byte then byte else (if byte == 13 then 32 else 63)

-- what is written under a byte: a tab under a tab, else a blank
abbrev pub blank : ℕ → ℕ
blank byte = if byte == 9 then 9 else 32

-- Letters, digits and the underscore make up words.
abbrev pub is_word_byte : ℕ → Bool
is_word_byte byte = is_ascii_alphanumeric byte || byte == 95

-- the word at the beginning of some bytes, which may be empty
abbrev pub first_word : List ℕ → List ℕ
first_word bytes = before_first (λ byte. not (is_word_byte byte)) bytes

-- The bytes begin with a sign of two bytes.
abbrev pub begins_long : List ℕ → Bool
begins_long bytes =
    starts_with nat_eq bytes (codes ":=") || starts_with nat_eq bytes (codes "=>") || starts_with nat_eq bytes (codes "!=")

-- the sign at the beginning of some bytes: two bytes if it has so many, else the first one
abbrev pub first_sign : List ℕ → List ℕ
first_sign bytes = if begins_long bytes then take 2 bytes else take 1 bytes

-- two dots if there are more bytes than are shown
abbrev pub dots : ℕ → List ℕ → List ℕ
dots most bytes = if nat_lt most (length bytes) then codes ".." else []

-- the first 40 bytes of a name between quotes, with dots if it has more
abbrev pub quoted : List ℕ → List ℕ
quoted name = codes "`" ++ (map shown (take 40 name) ++ (dots 40 name ++ codes "`"))

-- a sign between quotes, the number of a byte that is neither word nor sign, or that nothing more follows
abbrev pub sign_or_number : List ℕ → List ℕ
sign_or_number [] = codes "end of the text"
sign_or_number (byte ∷ rest) = if is_in_range 33 126 byte then quoted (first_sign (byte ∷ rest)) else codes "byte " ++ decimal byte

-- what comes first in the rest of a line: a word between quotes, or else what is there
abbrev pub first_item : List ℕ → List ℕ
first_item rest = if length (first_word rest) == 0 then sign_or_number rest else quoted (first_word rest)

-- the name at the beginning of the rest of a line, and what is said about it
abbrev pub of_name : List ℕ → List ℕ → List ℕ
of_name what rest = quoted (first_word rest) ++ what

-- what is said of a place without a word
abbrev pub here : List ℕ → List ℕ → List ℕ
here what rest = what

-- how many places a procedure needs for how many rounds, and how many it may have
abbrev pub needs : ℕ → ℕ → ℕ → List ℕ
needs places rounds most =
    codes " needs " ++ (decimal places ++ (codes " places with --rounds " ++ (decimal rounds
    ++ (codes ", and " ++ (decimal most ++ codes " is the limit\n")))))

-- how many path edges a procedure exceeds
abbrev pub exceeds : ℕ → List ℕ
exceeds edges = codes " has more than " ++ (decimal edges ++ codes " path edges\n")

-- that the text does not continue there as a program does
abbrev pub unexpected : List ℕ → List ℕ
unexpected rest = codes "unexpected " ++ (first_item rest ++ codes "\n")

-- that the byte there is not ASCII
abbrev pub foreign : List ℕ → List ℕ
foreign rest = first_item rest ++ codes " is not ASCII\n"

-- what is said about a fault where the rest of a line begins
abbrev pub of_fault : Wrong → List ℕ → List ℕ
of_fault (Word what) = of_name what.now
of_fault (Place what) = here what.now
of_fault (Wide places rounds most) = of_name (needs places rounds most)
of_fault (Edges edges) = of_name (exceeds edges)
of_fault Unexpected = unexpected
of_fault NotAscii = foreign

-- the last 60 bytes of a line before a place
abbrev pub near : List ℕ → List ℕ
near before = drop (length before - 60) before

-- the line of a place: at most 60 bytes before it and 40 from it on, with dots for what is left out
abbrev pub source_line : List ℕ → List ℕ → List ℕ
source_line before behind =
    dots 60 before ++ (map shown (near before) ++ (map shown (take 40 behind) ++ (dots 40 behind ++ codes "\n")))

-- the caret under the place
abbrev pub caret_line : List ℕ → List ℕ
caret_line before = map blank (dots 60 before) ++ (map blank (near before) ++ codes "^\n")

-- The message is the old one, the place of the offset, what is said about the rest of its line, that line and the
-- caret.
pub record Locates (path text : List ℕ) (at : ℕ) (told : List ℕ → List ℕ) (old new : List ℕ) : Type 0 where
  pub line : ℕ
  pub column : ℕ
  pub before : List ℕ
  pub behind : List ℕ
  pub place : IsPosition text at line column before behind
  pub message : new ≡ old
      ++ (message_head path line column ++ (told behind ++ (source_line before behind ++ caret_line before)))

-- the offset of the first byte that is not ASCII, if there is one
abbrev pub first_foreign : List ℕ → Option ℕ
first_foreign text = position (λ byte. nat_le 128 byte) text

-- the line for a text of which no byte is named
abbrev pub some_foreign : List ℕ → List ℕ
some_foreign path = escaped path ++ codes ": error: a byte is not ASCII\n"

-- The message is about the first byte that is not ASCII; if every byte is ASCII, it has no place.
abbrev pub LocatesForeign : List ℕ → List ℕ → List ℕ → List ℕ → Type 0
LocatesForeign path text old new =
    MatchOption (first_foreign text) (new ≡ old ++ some_foreign path) (λ at. Locates path text at foreign old new)
