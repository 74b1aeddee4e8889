-- Texts that are put together from tokens and blanks.
use Rattle.std.specs.Prelude.{◌≡◌, ℕ, ◌+◌, ◌⊎◌, Bool, true, false, ◌&&◌, ◌||◌, List, [], ◌∷◌, ◌++◌, length, Some, unwrap_or}
use Rattle.tokens.specs.declared.vocabulary.Kind.{Kind}
use Rattle.tokens.specs.declared.vocabulary.Kind.TheVariants as kind
use Rattle.tokens.specs.Token.{Tok}
use Rattle.tokens.specs.Spelling.{reserved_word, sign, IsWord}

-- A part of a text is a token of some kind with its bytes, a space or a line feed.
pub data Part : Type 0 where
  shown : Kind → List ℕ → Part
  space : Part
  line : Part

-- How keywords, constants and signs are spelled; names have no one spelling.
abbrev pub spelling : Kind → List ℕ
spelling k = unwrap_or (reserved_word k) (unwrap_or (sign k) [])

-- A keyword, a constant or a sign, as a part.
abbrev pub fixed : Kind → Part
fixed k = shown k (spelling k)

-- The text that the parts make, one after another.
abbrev pub text_of : List Part → List ℕ
text_of [] = []
text_of (shown k text ∷ parts) = text ++ text_of parts
text_of (space ∷ parts) = 32 ∷ text_of parts
text_of (line ∷ parts) = 10 ∷ text_of parts

-- The tokens among the parts of a text that begins at this offset, with theirs.
abbrev pub tokens_of : ℕ → List Part → List Tok
tokens_of at [] = []
tokens_of at (shown k text ∷ parts) = record { kind = k; at = at; text = text } ∷ tokens_of (at + length text) parts
tokens_of at (space ∷ parts) = tokens_of (at + 1) parts
tokens_of at (line ∷ parts) = tokens_of (at + 1) parts

-- The signs are not words.
abbrev pub is_word : Kind → Bool
is_word kind.Comma = false
is_word kind.Semicolon = false
is_word kind.Colon = false
is_word kind.Assign = false
is_word kind.Open = false
is_word kind.Close = false
is_word kind.Any = false
is_word kind.Implies = false
is_word kind.Or = false
is_word kind.Xor = false
is_word kind.And = false
is_word kind.Equal = false
is_word kind.Differs = false
is_word kind.Not = false
is_word _ = true

-- : and ! grow longer if = comes next.
abbrev pub may_grow : Kind → Bool
may_grow kind.Colon = true
may_grow kind.Not = true
may_grow _ = false

-- = and => begin with =.
abbrev pub begins_equal : Kind → Bool
begins_equal kind.Equal = true
begins_equal kind.Implies = true
begins_equal _ = false

-- Two neighbours would be cut differently if both are words, or if the second makes the first a longer sign.
abbrev pub joins : Kind → Kind → Bool
joins k next = is_word k && is_word next || may_grow k && begins_equal next

-- What comes next does not join this token.
abbrev pub IsApart : Kind → List Part → Type 0
IsApart k [] = Unit {0}
IsApart k (shown next text ∷ parts) = joins k next ≡ false
IsApart k (space ∷ parts) = Unit {0}
IsApart k (line ∷ parts) = Unit {0}

-- A token is spelled as words or signs of its kind are.
abbrev pub IsSpelled : Kind → List ℕ → Type 0
IsSpelled k text = IsWord k text ⊎ (sign k ≡ Some text)

-- Each token is spelled right and apart from what comes next.
abbrev pub AreApart : List Part → Type 0
AreApart [] = Unit {0}
AreApart (shown k text ∷ parts) = IsSpelled k text × IsApart k parts × AreApart parts
AreApart (space ∷ parts) = AreApart parts
AreApart (line ∷ parts) = AreApart parts
