-- The hint for a place where no program goes on.
use Rattle.std.specs.Prelude.{◌≡◌, ℕ, ◌+◌, ◌<◌, ◌⊎◌, List, ◌++◌, Option, None, Some, codes, drop, length, min, take}
use Rattle.std.specs.Str.{IsAscii}
use Rattle.diagnostics.specs.Message.{WritesPlace}
use Rattle.tokens.specs.Cuts.{Cuts}
use Rattle.tokens.specs.Limits.{most_bytes}
use Rattle.tokens.specs.Token.{Tok, toks_of}
use Rattle.tokens.specs.declared.vocabulary.Kind.TheVariants as kind
use Rattle.tokens.specs.declared.vocabulary.Token.{Token}
use Rattle.hints.specs.Front.{front_to}
use Rattle.hints.specs.Place.{last_token, surroundings_at}
use Rattle.hints.specs.Row.{Row}
use Rattle.hints.specs.Tables.{row_for}
use Rattle.hints.specs.declared.front.Brackets.TheVariants.{Parens, Blocks}
use Rattle.hints.specs.declared.group.Group.TheVariants as group
use Rattle.hints.specs.declared.row.Mention.{Mention}
use Rattle.hints.specs.declared.row.Mention.TheVariants as mention

-- The message goes on with the token between quotes and its place; with nothing, if there is no token.
abbrev pub MentionsToken : List ℕ → Option Token → List ℕ → List ℕ → Type 0
MentionsToken text None old new = new ≡ old
MentionsToken text (Some token) old new =
    WritesPlace text (min (length text) token.at) (old ++ (codes "`" ++ (token.text.now ++ codes "` at "))) new

-- The message goes on with the place where the token ends; with nothing, if there is no token.
abbrev pub MentionsEnd : List ℕ → Option Token → List ℕ → List ℕ → Type 0
MentionsEnd text None old new = new ≡ old
MentionsEnd text (Some token) old new = WritesPlace text (min (length text) (token.at + length token.text.now)) old new

-- The message goes on with what a hint mentions after these tokens: nothing; the innermost `begin`, `if` or `while`
-- that is open; the innermost `(` that is open; or where the last token ends.
abbrev pub Mentions : Mention → List ℕ → List Token → List ℕ → List ℕ → Type 0
Mentions mention.Nothing text tokens old new = new ≡ old
Mentions mention.Block text tokens old new = MentionsToken text (last_token (front_to Blocks group.Opener tokens)) old new
Mentions mention.Paren text tokens old new = MentionsToken text (last_token (front_to Parens (group.Only kind.Open) tokens)) old new
Mentions mention.Behind text tokens old new = MentionsEnd text (last_token tokens) old new

-- The message goes on with the line of the row's hint: its first part, what it mentions, and its second part.
abbrev pub AddsLine : List ℕ → List Token → Row → List ℕ → List ℕ → Type 0
AddsLine text tokens row old new =
    (between : List ℕ) × Mentions row.pattern.mention text tokens ((old ++ codes "hint: ") ++ row.front) between
    × (new ≡ (between ++ row.back) ++ codes "\n")

-- The message goes on with the line of this row; with nothing, if there is no row.
abbrev pub AddsRow : List ℕ → List Token → Option Row → List ℕ → List ℕ → Type 0
AddsRow text tokens None old new = new ≡ old
AddsRow text tokens (Some row) old new = AddsLine text tokens row old new

-- No tokens of the text are known: it is not ASCII, it is too long, or it cannot be cut into tokens.
abbrev pub HasNoTokens : List ℕ → Type 0
HasNoTokens text =
    (¬ IsAscii text) ⊎ ((most_bytes < length text) ⊎ ((tokens : List Tok) → Cuts 0 text tokens → ⊥))

-- The message goes on with the line of the first row that fits the tokens of the text before the place and what is
-- there; with nothing, if no tokens of that text are known, which is never so at an offset that the reader names.
abbrev pub AddsHint : List ℕ → ℕ → List ℕ → List ℕ → Type 0
AddsHint text at old new =
    ((tokens : List Token) × Cuts 0 (take at text) (toks_of tokens)
    × AddsRow text tokens (row_for (surroundings_at tokens (drop at text))) old new)
    ⊎ (HasNoTokens (take at text) × (new ≡ old))
