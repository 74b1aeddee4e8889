-- What is open at the end of some tokens.
use Rattle.std.specs.Prelude.{ℕ, Bool, true, false, ◌&&◌, ◌==◌, List, [], ◌∷◌, count_by}
use Rattle.tokens.specs.Token.{same_kind}
use Rattle.tokens.specs.declared.vocabulary.Kind.{Kind}
use Rattle.tokens.specs.declared.vocabulary.Kind.TheVariants as kind
use Rattle.tokens.specs.declared.vocabulary.Token.{Token}
use Rattle.hints.specs.Group.{includes, is_opener}
use Rattle.hints.specs.declared.front.Brackets.{Brackets}
use Rattle.hints.specs.declared.front.Brackets.TheVariants.{Parens, Blocks}
use Rattle.hints.specs.declared.group.Group.{Group}

-- `(` opens, and so do `begin`, `if` and `while`.
abbrev pub is_opening : Brackets → Kind → Bool
is_opening Parens k = same_kind k kind.Open
is_opening Blocks k = is_opener k

-- `end`, `fi` and `od` close.
abbrev pub is_closer : Kind → Bool
is_closer kind.End = true
is_closer kind.Fi = true
is_closer kind.Od = true
is_closer _ = false

-- `)` closes, and so do `end`, `fi` and `od`.
abbrev pub is_closing : Brackets → Kind → Bool
is_closing Parens k = same_kind k kind.Close
is_closing Blocks k = is_closer k

-- how many of the tokens open
abbrev pub opening_count : Brackets → List Token → ℕ
opening_count brackets tokens = count_by (λ t. is_opening brackets t.kind) tokens

-- how many of them close
abbrev pub closing_count : Brackets → List Token → ℕ
closing_count brackets tokens = count_by (λ t. is_closing brackets t.kind) tokens

-- The token is of the group, and what is opened after it is closed.
abbrev pub ends_front : Brackets → Group → Token → List Token → Bool
ends_front brackets group token after = includes group token.kind && (opening_count brackets after == closing_count brackets after)

-- the token and the front of those after it; without such a front, the token alone if it ends one
abbrev pub extended : Token → List Token → Bool → List Token
extended token [] true = token ∷ []
extended token [] false = []
extended token (next ∷ front) ends = token ∷ (next ∷ front)

-- the tokens up to the last one that is of the group and after which what is opened is closed; no tokens without one
unfoldable pub front_to : Brackets → Group → List Token → List Token
front_to brackets group [] = []
front_to brackets group (token ∷ after) =
    extended token (front_to brackets group after) (ends_front brackets group token after)
