-- What a fault of the cutting says.
use Rattle.std.specs.Prelude.{ℕ, List}
use Rattle.tokens.specs.declared.cutting.CutFault.{CutFault}
use Rattle.tokens.specs.declared.cutting.CutFault.TheVariants.{Memory, Syntax}
use Rattle.tokens.specs.Token.{Tok}
use Rattle.tokens.specs.Cuts.{Cuts, BadAt}

-- A syntax fault names the place of the first bytes that begin neither a gap nor a token.
abbrev pub NamesPlace : CutFault → List ℕ → Type 0
NamesPlace Memory text = Unit {0}
NamesPlace (Syntax at) text = BadAt 0 text at

-- A text with a syntax fault is cut into no list of tokens.
abbrev pub IsUncut : CutFault → List ℕ → Type 0
IsUncut Memory text = Unit {0}
IsUncut (Syntax at) text = (tokens : List Tok) → Cuts 0 text tokens → ⊥
