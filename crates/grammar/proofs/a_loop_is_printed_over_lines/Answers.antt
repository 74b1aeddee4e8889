use Rattle.std.proofs.Common.{refl}
use Rattle.grammar.specs.Printed.{printed}
use Rattle.grammar.proofs.a_loop_is_printed_over_lines.Goals as goal

pub returns : goal.returns
unfolding printed
returns c = refl
