-- If nothing is rewritten, the refusal that stands is reported.
use Rattle.std.proofs.Common.{None, inr}
use Rattle.round_rewrite.specs.Programs.{count_of}
use Rattle.cli.proofs.Refusing.{refuses}
use Rattle.cli.proofs.answers.rewriting.Goals as goal

pub returns-in-Err : goal.returns-in-Err
returns-in-Err g c =
    inr (refuses c.args.text.now (count_of c.args.rounds) None c.in-Err.refusal c.refused.result c.in-Err.ensures.stands
    c.refused.ensures)
