-- One command is added.
use Rattle.std.proofs.Common.{◌∙◌, ap, ap₂}
use Rattle.std.proofs.lemmas.Result.{IfOk-weaker}
use Rattle.clap.specs.Words.{App, with_subcommand}
use Rattle.command_line.proofs.line.with_check.Goals as goal

pub returns : goal.returns
returns c =
    IfOk-weaker c.subcommand.result _ _
    (λ r adds. adds.shape c.in_ok-check.ensures.1 ∙
    ap₂ with_subcommand c.bare_line.ensures (ap (λ (a : App). a.top) c.in_ok-check.ensures.0)) c.subcommand.ensures
