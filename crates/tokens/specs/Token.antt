-- Tokens as definitions see them.
use Rattle.std.specs.Prelude.{ℕ, Bool, true, false, List, map}
use denote.Enum.Bare.{sameb}
use Rattle.tokens.specs.contracts.vocabulary.Kind.{the_type}
use Rattle.tokens.specs.declared.vocabulary.Kind.{Kind}
use Rattle.tokens.specs.declared.vocabulary.Kind.TheVariants as kind
use Rattle.tokens.specs.declared.vocabulary.Token.{Token}

-- A token has a kind, the offset of its first byte in the text, and its bytes.
pub record Tok : Type 0 where
  pub kind : Kind
  pub at : ℕ
  pub text : List ℕ

-- The token that a value of the program's type stands for.
abbrev pub tok_of : Token → Tok
tok_of t = record { kind = t.kind; at = t.at; text = t.text.now }

-- The tokens that the values of the program's type stand for, in order.
abbrev pub toks_of : List Token → List Tok
toks_of ts = map tok_of ts

-- Whether two kinds are the same.
unfoldable pub same_kind : Kind → Kind → Bool
same_kind = sameb the_type

-- The operators are => | ^ & = != and !.
abbrev pub is_operator : Kind → Bool
is_operator kind.Implies = true
is_operator kind.Or = true
is_operator kind.Xor = true
is_operator kind.And = true
is_operator kind.Equal = true
is_operator kind.Differs = true
is_operator kind.Not = true
is_operator _ = false
