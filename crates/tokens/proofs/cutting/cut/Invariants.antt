use Rattle.std.proofs.Common.{◌-◌, length}
use denote.Text.{Utf8}
use denote.Shadow.{shadow}
use Rattle.tokens.specs.Token.{toks_of}
use Rattle.tokens.proofs.Reached.{Reached}
use Rattle.tokens.proofs.cutting.cut.Given as goal

abbrev pub invariant-loop-rest : goal.invariant-loop-rest
invariant-loop-rest g l =
    shadow (Utf8 l.rest) × Reached l.text (toks_of l.tokens.items) (length l.text - length l.rest) l.rest

abbrev pub decreases-loop-rest : goal.decreases-loop-rest
decreases-loop-rest g l = length l.rest
