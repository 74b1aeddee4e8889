-- A cause that holds is told as a refusal that stands.
use Rattle.checked.specs.Programs.{checked_tree}
use Rattle.explorer.proofs.Refusing.{told_stands}
use Rattle.explorer.proofs.answers.explored.Goals as goal

pub returns-clause-stands : goal.returns-clause-stands
returns-clause-stands g c =
    told_stands c.args.text.now (checked_tree c.in_ok-program.program) c.in-Err.cause c.refusal_of.result
    c.in_ok-program.ensures.program c.in-Err.ensures.cause c.refusal_of.ensures
