-- How deep tokens nest, and how long expressions without parentheses grow.
use Rattle.std.specs.Prelude.{◌≡◌, ℕ, ◌+◌, ◌<◌, ◌⊎◌, Bool, true, false, List, ◌++◌, count_by}
use Rattle.std.specs.List.{AllByRecursion}
use Rattle.tokens.specs.declared.vocabulary.Kind.{Kind}
use Rattle.tokens.specs.declared.vocabulary.Kind.TheVariants as kind
use Rattle.tokens.specs.Token.{Tok, is_operator}

-- ( begin if and while open.
abbrev pub opens : Kind → Bool
opens kind.Open = true
opens kind.Begin = true
opens kind.If = true
opens kind.While = true
opens _ = false

-- ) end fi and od close.
abbrev pub closes : Kind → Bool
closes kind.Close = true
closes kind.End = true
closes kind.Fi = true
closes kind.Od = true
closes _ = false

-- A keyword, a comma, a semicolon and := end a run.
abbrev pub ends_run : Kind → Bool
ends_run kind.Decl = true
ends_run kind.Begin = true
ends_run kind.End = true
ends_run kind.Thread = true
ends_run kind.Skip = true
ends_run kind.If = true
ends_run kind.Then = true
ends_run kind.Else = true
ends_run kind.Fi = true
ends_run kind.While = true
ends_run kind.Do = true
ends_run kind.Od = true
ends_run kind.Assert = true
ends_run kind.Assume = true
ends_run kind.Goto = true
ends_run kind.Return = true
ends_run kind.Comma = true
ends_run kind.Semicolon = true
ends_run kind.Assign = true
ends_run _ = false

-- How many of the tokens open.
abbrev pub openings : List Tok → ℕ
openings tokens = count_by (λ t. opens t.kind) tokens

-- How many of the tokens close.
abbrev pub closings : List Tok → ℕ
closings tokens = count_by (λ t. closes t.kind) tokens

-- How many of the tokens are operators.
abbrev pub operators : List Tok → ℕ
operators tokens = count_by (λ t. is_operator t.kind) tokens

-- Up to some place more than 64 more tokens open than close.
abbrev pub NestsTooDeep : List Tok → Type 0
NestsTooDeep tokens = (front rest : List Tok) × (tokens ≡ front ++ rest) × (64 + closings front < openings front)

-- Some stretch of tokens, none of which ends a run, has more than 64 operators.
abbrev pub HasLongRun : List Tok → Type 0
HasLongRun tokens =
    (before stretch after : List Tok) × (tokens ≡ before ++ (stretch ++ after)) × AllByRecursion (λ t. ends_run t.kind ≡ false) stretch
    × (64 < operators stretch)

-- A text is too deep if its tokens nest too deep or have too long a run.
abbrev pub TooDeep : List Tok → Type 0
TooDeep tokens = NestsTooDeep tokens ⊎ HasLongRun tokens
