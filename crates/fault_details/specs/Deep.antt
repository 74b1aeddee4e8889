-- Where a text becomes too deep for the reader.
use Rattle.std.specs.Prelude.{◌≡◌, ℕ, ◌+◌, ◌⊎◌, List, Option, None, Some, slice_get, take}
use Rattle.hints.specs.Hint.{HasNoTokens}
use Rattle.tokens.specs.Cuts.{Cuts}
use Rattle.tokens.specs.Depth.{TooDeep}
use Rattle.tokens.specs.Token.{toks_of}
use Rattle.tokens.specs.declared.vocabulary.Token.{Token}

-- The tokens are too deep with the one at this index, and not without it.
abbrev pub TurnDeep : List Token → ℕ → Type 0
TurnDeep tokens i = (TooDeep (toks_of (take i tokens)) → ⊥) × TooDeep (toks_of (take (i + 1) tokens))

-- This is the first token with which the tokens are too deep; none if they are not.
abbrev pub IsFirstDeep : List Token → Option Token → Type 0
IsFirstDeep tokens None = TooDeep (toks_of tokens) → ⊥
IsFirstDeep tokens (Some token) = (i : ℕ) × (slice_get tokens i ≡ Some token) × TurnDeep tokens i

-- This is the first token with which the text is too deep; none if it is not, or if no tokens of it are known.
abbrev pub GetsDeep : List ℕ → Option Token → Type 0
GetsDeep text found =
    ((tokens : List Token) × Cuts 0 text (toks_of tokens) × IsFirstDeep tokens found) ⊎ (HasNoTokens text × (found ≡ None))
