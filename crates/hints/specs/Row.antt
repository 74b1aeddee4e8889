-- The rows of the tables, and when one fits.
use Rattle.std.specs.Prelude.{ℕ, Bool, true, false, ◌&&◌, ◌||◌, ◌==◌, not, List, [], ◌∷◌, bytes_eq, if◌then◌else◌, length, map}
use Rattle.std.specs.Prelude.{nat_eq}
use Rattle.std.specs.Char.{is_ascii_digit}
use Rattle.std.specs.List.{list_any, starts_with}
use denote.Ref.{Bor}
use Rattle.diagnostics.specs.Message.{first_word, is_word_byte}
use Rattle.hints.specs.Group.{allows}
use Rattle.hints.specs.Place.{Surroundings}
use Rattle.hints.specs.declared.row.Next.{Next}
use Rattle.hints.specs.declared.row.Next.TheVariants as next
use Rattle.hints.specs.declared.choosing.TheConstants.{SIGN_BYTES}
use Rattle.hints.specs.declared.row.Pattern.{Pattern}

-- A row asks of the tokens and of what is there what its pattern says, and asks for one of some words as the last
-- token, before the `(`, and at the place; it gives a hint in two parts.
pub record Row : Type 0 where
  pub pattern : Pattern
  pub after : List (List ℕ)
  pub of : List (List ℕ)
  pub at : List (List ℕ)
  pub front : List ℕ
  pub back : List ℕ

-- the words of a row of the program's type
abbrev pub Words : Type 0
Words = Bor (List (Bor (List ℕ)))

-- a row, by what its words and its texts refer to
abbrev pub row_by : {W T : Type 0} → (W → List (List ℕ)) → (T → List ℕ) → Pattern × W × W × W × T × T → Row
row_by words text r = record {
  pattern = r.0;
  after = words r.1;
  of = words r.2;
  at = words r.3;
  front = text r.4;
  back = text r.5;
}

-- a row of the program's type
abbrev pub row_of : Pattern × Words × Words × Words × Bor (List ℕ) × Bor (List ℕ) → Row
row_of = row_by (λ (ws : Words). map (λ (w : Bor (List ℕ)). w.now) ws.now) (λ (t : Bor (List ℕ)). t.now)

-- What a constant has in place of a reference.
abbrev pub Fixed : Type 0 → Type 0
Fixed T = record { now : T }

-- the words of a row of a constant
abbrev pub FixedWords : Type 0
FixedWords = Fixed (List (Fixed (List ℕ)))

-- a row of a constant
abbrev pub fixed_row : Pattern × FixedWords × FixedWords × FixedWords × Fixed (List ℕ) × Fixed (List ℕ) → Row
fixed_row = row_by (λ (ws : FixedWords). map (λ (w : Fixed (List ℕ)). w.now) ws.now) (λ (t : Fixed (List ℕ)). t.now)

-- The word is one of these, or these are none.
abbrev pub admits : List (List ℕ) → List ℕ → Bool
admits words word = length words == 0 || list_any (λ w. bytes_eq word w) words

-- The word that the text begins with is this one, or the text begins with this sign.
abbrev pub begins_with : List ℕ → List ℕ → Bool
begins_with text spelled =
    if length (first_word text) == 0 then starts_with nat_eq text spelled else bytes_eq (first_word text) spelled

-- The text begins with one of these, or these are none.
abbrev pub begins_among : List (List ℕ) → List ℕ → Bool
begins_among words text = length words == 0 || list_any (λ w. begins_with text w) words

-- The word begins with a letter or an underscore.
abbrev pub is_name : List ℕ → Bool
is_name [] = false
is_name (byte ∷ word) = not (is_ascii_digit byte)

-- The word begins with a digit, and is neither `0` nor `1`.
abbrev pub is_number : List ℕ → Bool
is_number [] = false
is_number (byte ∷ word) =
    is_ascii_digit byte && not (bytes_eq (byte ∷ word) (48 ∷ []) || bytes_eq (byte ∷ word) (49 ∷ []))

-- The text begins with neither a word nor a sign of the language.
abbrev pub is_strange : List ℕ → Bool
is_strange [] = false
is_strange (byte ∷ text) = not (is_word_byte byte) && not (list_any (λ sign. nat_eq sign byte) SIGN_BYTES.now)

-- What the text begins with is of this kind.
abbrev pub is_next : Next → List ℕ → Bool
is_next next.Each text = true
is_next next.Word text = is_name (first_word text)
is_next next.Number text = is_number (first_word text)
is_next next.Strange text = is_strange text
is_next next.Ended text = length text == 0

-- The pattern fits what is seen at a place.
abbrev pub matches : Surroundings → Pattern → Bool
matches seen pattern =
    allows pattern.last seen.last && allows pattern.second seen.second && allows pattern.head seen.head
    && allows pattern.owner seen.owner && allows pattern.block seen.block && is_next pattern.next seen.rest

-- The row fits what is seen at a place: its pattern, and its words.
abbrev pub fits : Surroundings → Row → Bool
fits seen row =
    matches seen row.pattern && admits row.after seen.word && admits row.of seen.called && begins_among row.at seen.rest
