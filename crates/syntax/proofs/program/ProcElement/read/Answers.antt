use Rattle.std.proofs.Common.{refl}
use Rattle.syntax.specs.Exact.{procedure}
use Rattle.syntax.proofs.program.ProcElement.read.Goals as goal

pub returns-clause-gives : goal.returns-clause-gives
unfolding procedure
returns-clause-gives g c =
    rw (c.in_ok-name.ensures.gives, c.in_ok-formals.ensures.gives, c.in_ok-locals.ensures.gives) refl
