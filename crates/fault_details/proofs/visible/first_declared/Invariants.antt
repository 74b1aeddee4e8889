-- What is declared by the tokens that were passed is not like the word.
use Rattle.std.proofs.Common.{◌≡◌, drop}
use Rattle.std.specs.Prelude.{find}
use Rattle.fault_details.specs.Visible.{declared, is_like}
use Rattle.fault_details.proofs.visible.first_declared.Given as goal

abbrev pub invariant-loop-i : goal.invariant-loop-i
invariant-loop-i l = find (is_like l.word) (declared (drop l.i l.tokens)) ≡ find (is_like l.word) (declared l.tokens)
