-- Truth tables: the value of an expression of a few bits for each of their values.
use Rattle.std.specs.Prelude.{◌≡◌, ◌<◌, ◌/◌, ◌%◌, ℕ, suc, get_or, Bool, true, false, cond, ◌==◌, Option, Some, None}
use Rattle.std.specs.Prelude.{List, [], ◌∷◌, ◌++◌, map}
use Rattle.language.specs.Tree.{Expression}
use Rattle.flow_graph.specs.Bits.{bit_of, coded}
use Rattle.flow_graph.specs.Located.{worth}
use Rattle.resolved.specs.Limits.{most_places}

-- how many inputs come before the first that is this bit
abbrev pub slot : ℕ → List ℕ → ℕ
slot bit [] = 0
slot bit (x ∷ xs) = cond (bit == x) 0 (suc (slot bit xs))

-- some input is this bit
abbrev pub is_input : ℕ → List ℕ → Bool
is_input bit [] = false
is_input bit (x ∷ xs) = cond (bit == x) true (is_input bit xs)

-- the value of a bit, if it is one of those that have this row
abbrev pub known_bit : List ℕ → ℕ → ℕ → Option Bool
known_bit bits row bit = cond (is_input bit bits) (Some (bit_of row (slot bit bits))) None

-- by these values the bits have this row: each has the value of its slot's bit
abbrev pub HaveRow : List ℕ → ℕ → (ℕ → Bool) → Type 0
HaveRow bits row f = (place : ℕ) → is_input place bits ≡ true → f place ≡ bit_of row (slot place bits)

-- how many inputs a table has at most
abbrev pub most_inputs : ℕ
most_inputs = 10

-- how many rows a table has at most: one for each value of ten inputs
abbrev pub most_rows : ℕ
most_rows = 1024

-- how many rows a word has the outputs of
abbrev pub word_rows : ℕ
word_rows = 64

-- the output in a row, of which each word has 64; after the words it is 0
abbrev pub output : List ℕ → ℕ → Bool
output words row = bit_of (get_or words (row / word_rows) 0) (row % word_rows)

-- output j is the value of the bit, by all values by which the inputs have row j
abbrev pub ReadsBit : List ℕ → List ℕ → ℕ → Type 0
ReadsBit inputs words bit = (reading : ℕ → Bool) (input_row : ℕ) → input_row < most_rows → HaveRow inputs input_row reading
    → output words input_row ≡ reading bit

-- output j is the value of the expression, by all values by which the known bits have their row and the inputs row j
abbrev pub Tabulates : List ℕ → ℕ → List ℕ → List ℕ → Expression ℕ → Type 0
Tabulates known row inputs words expression =
    (reading : ℕ → Bool) (input_row : ℕ) → input_row < most_rows → HaveRow known row reading → HaveRow inputs input_row reading
    → output words input_row ≡ worth reading expression

-- the output in the row of these values
abbrev pub table_says : List ℕ → List ℕ → ℕ → Bool
table_says inputs words values = output words (coded (map (bit_of values) inputs))

-- each input is a place
abbrev pub AreBits : List ℕ → Type 0
AreBits [] = Unit {0}
AreBits (bit ∷ bits) = (bit < most_places) × AreBits bits

-- inputs that were there, and some more
abbrev pub Widens : List ℕ → List ℕ → Type 0
Widens old new = (more : List ℕ) × (new ≡ old ++ more)
