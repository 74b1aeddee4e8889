-- The variables that are declared where a place is.
use Rattle.std.specs.Prelude.{ℕ, ◌-◌, ◌+◌, ◌&&◌, Bool, List, [], ◌∷◌, ◌++◌, Option, drop, find, if◌then◌else◌, length, not, reverse, take}
use Rattle.std.specs.List.{prefix_len}
use Rattle.hints.specs.Place.{without_last}
use Rattle.tokens.specs.Token.{same_kind}
use Rattle.tokens.specs.declared.vocabulary.Kind.{Kind}
use Rattle.tokens.specs.declared.vocabulary.Kind.TheVariants as kind
use Rattle.tokens.specs.declared.vocabulary.Token.{Token}
use Rattle.fault_details.specs.Counting.{list_length}
use Rattle.fault_details.specs.Nearness.{is_near}
use Rattle.fault_details.specs.Seeking.{comes_first, is_inside}

-- The token is not of this kind.
abbrev pub is_other : Kind → Token → Bool
is_other k token = not (same_kind token.kind k)

-- the tokens before the first `(`, which is that of the first procedure, without its name: the names among them are the
-- globals
abbrev pub global_tokens : List Token → List Token
global_tokens tokens = without_last (take (prefix_len (is_other kind.Open) tokens) tokens)

-- how many tokens come after the last `end`
abbrev pub own_length : List Token → ℕ
own_length tokens = prefix_len (is_other kind.End) (reverse tokens)

-- the tokens of the procedure in which these tokens end; in the first procedure, all of them
abbrev pub own_tokens : List Token → List Token
own_tokens tokens = drop (length tokens - own_length tokens) tokens

-- the tokens from the first `(` on
abbrev pub from_paren : List Token → List Token
from_paren tokens = drop (prefix_len (is_other kind.Open) tokens) tokens

-- the tokens from the first `(` up to the `)`: the names among them are the formals of the first procedure
abbrev pub formal_tokens : List Token → List Token
formal_tokens tokens = take (prefix_len is_inside (from_paren tokens)) (from_paren tokens)

-- how many tokens the list has that a `decl` at the beginning of these tokens begins; 0 without it
abbrev pub listed_length : List Token → ℕ
listed_length tokens = if comes_first kind.Decl tokens then list_length (drop 1 tokens) else 0

-- the tokens of that list
abbrev pub list_tokens : List Token → List Token
list_tokens tokens = take (listed_length tokens) (drop 1 tokens)

-- the tokens of the lists after `decl`: the names among them are the variables that are declared so
unfoldable pub declared : List Token → List Token
declared [] = []
declared (token ∷ rest) = list_tokens (token ∷ rest) ++ declared rest

-- The token is a name like the word.
abbrev pub is_like : List ℕ → Token → Bool
is_like word token = same_kind token.kind kind.Id && is_near word token.text.now

-- the tokens in which the variables are named that are declared where `before` ends: the globals, and the formals and
-- locals of the procedure there
abbrev pub visible : List Token → List Token → List Token
visible tokens before = global_tokens tokens ++ (formal_tokens (own_tokens before) ++ declared (own_tokens before))

-- the first variable like a word that is declared where `before` ends
abbrev pub like_variable : List Token → List Token → List ℕ → Option Token
like_variable tokens before word = find (is_like word) (visible tokens before)
