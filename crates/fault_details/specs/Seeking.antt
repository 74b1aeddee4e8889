-- Where a procedure, a name or a label stands among tokens.
use Rattle.std.specs.Prelude.{ℕ, ◌+◌, Bool, true, false, ◌&&◌, not, List, [], ◌∷◌, Option, None, Some, bytes_eq, if◌then◌else◌, slice_get}
use Rattle.std.specs.List.{prefix_len}
use Rattle.tokens.specs.Token.{same_kind}
use Rattle.tokens.specs.declared.vocabulary.Kind.{Kind}
use Rattle.tokens.specs.declared.vocabulary.Kind.TheVariants as kind
use Rattle.tokens.specs.declared.vocabulary.Token.{Token}
use Rattle.fault_details.specs.Nearness.{is_near}
use Rattle.fault_details.specs.declared.seeking.Sought.{Sought}
use Rattle.fault_details.specs.declared.seeking.Sought.TheVariants as sought

-- A token of this kind comes first.
abbrev pub comes_first : Kind → List Token → Bool
comes_first k [] = false
comes_first k (first ∷ rest) = same_kind first.kind k

-- The token is no `)`.
abbrev pub is_inside : Token → Bool
is_inside token = not (same_kind token.kind kind.Close)

-- The token is there, and is `begin`.
abbrev pub is_begin : Option Token → Bool
is_begin None = false
is_begin (Some token) = same_kind token.kind kind.Begin

-- After the first `)` comes `begin`.
abbrev pub has_body : List Token → Bool
has_body tokens = is_begin (slice_get tokens (prefix_len is_inside tokens + 1))

-- What is sought may be followed by these: a procedure's name by its formals and `begin`, a label by `:`.
abbrev pub goes_on : Sought → List Token → Bool
goes_on sought.Name rest = true
goes_on sought.Procedure rest = comes_first kind.Open rest && has_body rest
goes_on sought.Label rest = comes_first kind.Colon rest
goes_on sought.Like rest = comes_first kind.Open rest && has_body rest

-- A name is the word, or only like it.
abbrev pub is_named : Sought → List ℕ → List ℕ → Bool
is_named sought.Like word name = is_near word name
is_named what word name = bytes_eq name word

-- What is sought, with this name, stands first.
abbrev pub stands : Sought → List ℕ → List Token → Bool
stands what word [] = false
stands what word (first ∷ rest) =
    same_kind first.kind kind.Id && is_named what word first.text.now && goes_on what rest

-- the tokens from the first place on where what is sought stands; no tokens, if it stands nowhere
unfoldable pub seek : Sought → List ℕ → List Token → List Token
seek what word [] = []
seek what word (first ∷ rest) =
    if stands what word (first ∷ rest) then first ∷ rest else seek what word rest
