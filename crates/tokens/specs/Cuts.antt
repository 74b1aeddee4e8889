-- What a text is cut into.
use Rattle.std.specs.Prelude.{◌≡◌, ℕ, ◌+◌, ◌<◌, ◌≤◌, Bool, true, false, not, ◌||◌, ◌==◌, List, [], ◌∷◌, ◌++◌, length, Some}
use Rattle.std.specs.List.{AllByRecursion}
use Rattle.tokens.specs.declared.vocabulary.Kind.{Kind}
use Rattle.tokens.specs.Token.{Tok}
use Rattle.tokens.specs.Spelling.{sign, is_word_byte, IsWord}

-- A space, a tab, a line feed and a carriage return separate tokens.
abbrev pub is_blank : ℕ → Bool
is_blank b = b == 32 || b == 9 || b == 10 || b == 13

-- A byte other than a line feed.
abbrev pub is_in_line : ℕ → Bool
is_in_line b = not (b == 10)

-- The test does not hold for the byte that comes next, if one does.
abbrev pub Stops : (ℕ → Bool) → List ℕ → Type 0
Stops test [] = Unit {0}
Stops test (b ∷ bytes) = test b ≡ false

-- Between tokens are blanks, and comments from // to the next line feed or the end of the text.
pub data IsGap : List ℕ → List ℕ → Type 0 where
  blank : {b : ℕ} {rest : List ℕ} → is_blank b ≡ true → IsGap (b ∷ []) rest
  comment : {line rest : List ℕ} → AllByRecursion (λ b. is_in_line b ≡ true) line → Stops is_in_line rest → IsGap (47 ∷ 47 ∷ line) rest

-- No sign at the front of these bytes is longer than this one.
abbrev pub IsLongestSign : List ℕ → List ℕ → Type 0
IsLongestSign spelled bytes = (k : Kind) (other rest : List ℕ) → sign k ≡ Some other → bytes ≡ other ++ rest → length other ≤ length spelled

-- A token is a word that no word byte follows, or a sign with no longer one in its place.
pub data IsToken : Kind → List ℕ → List ℕ → Type 0 where
  word : {k : Kind} {text rest : List ℕ} → IsWord k text → Stops is_word_byte rest → IsToken k text rest
  sign_of : {k : Kind} {text rest : List ℕ} → sign k ≡ Some text → IsLongestSign text (text ++ rest) → IsToken k text rest

-- The bytes from this offset on are cut into these tokens: no bytes into none, a gap and the rest into those of the
-- rest, a token and the rest into it and those of the rest.
pub data Cuts : ℕ → List ℕ → List Tok → Type 0 where
  nothing : {at : ℕ} → Cuts at [] []
  gap : {at : ℕ} {bytes : List ℕ} {tokens : List Tok} (text rest : List ℕ) → bytes ≡ text ++ rest → IsGap text rest
      → Cuts (at + length text) rest tokens → Cuts at bytes tokens
  token : {at : ℕ} {bytes : List ℕ} {tokens : List Tok} (k : Kind) (text rest : List ℕ) → bytes ≡ text ++ rest → IsToken k text rest
      → Cuts (at + length text) rest tokens → Cuts at bytes (record { kind = k; at = at; text = text } ∷ tokens)

-- There are bytes, and neither a gap nor a token is at their front.
pub record IsBad (bytes : List ℕ) : Type 0 where
  pub some : 0 < length bytes
  pub no_gap : (text rest : List ℕ) → bytes ≡ text ++ rest → IsGap text rest → ⊥
  pub no_token : (k : Kind) (text rest : List ℕ) → bytes ≡ text ++ rest → IsToken k text rest → ⊥

-- The bytes from this offset on are cut into tokens up to the place of the first that begins neither a gap nor a token.
pub data BadAt : ℕ → List ℕ → ℕ → Type 0 where
  here : {at : ℕ} {bytes : List ℕ} → IsBad bytes → BadAt at bytes at
  past_gap : {at place : ℕ} {bytes : List ℕ} (text rest : List ℕ) → bytes ≡ text ++ rest → IsGap text rest
      → BadAt (at + length text) rest place → BadAt at bytes place
  past_token : {at place : ℕ} {bytes : List ℕ} (k : Kind) (text rest : List ℕ) → bytes ≡ text ++ rest → IsToken k text rest
      → BadAt (at + length text) rest place → BadAt at bytes place
