use Rattle.std.proofs.Common.{refl}
use Rattle.syntax.specs.Exact.{thread_line}
use Rattle.syntax.proofs.program.ThreadElement.read.Goals as goal

pub returns-clause-gives : goal.returns-clause-gives
unfolding thread_line
returns-clause-gives g c = rw (c.in_ok-word.ensures.gives, c.in_ok-name.ensures.gives) refl
