-- The command that is built is the one that is written down.
use Rattle.std.proofs.Common.{◌∙◌, ◌||◌, ap₂}
use Rattle.std.proofs.lemmas.Result.{IfOk-weaker}
use Rattle.clap.specs.Words.{with_rule}
use Rattle.command_line.proofs.line.check.Goals as goal

pub returns : goal.returns
returns c =
    let numbers = c.in_ok-check_by_numbers.ensures in
    IfOk-weaker c.arg-2.result _ _ (λ r adds. (
      adds.shape c.file.ensures.local ∙
          ap₂ with_rule (c.in_ok-arg.ensures.shape c.stats.ensures.local ∙ ap₂ with_rule numbers.0 c.stats.ensures.rule)
          c.file.ensures.rule,
      adds.globals ∙
          ap₂ ◌||◌ (c.in_ok-arg.ensures.globals ∙ ap₂ ◌||◌ numbers.1 c.stats.ensures.local) c.file.ensures.local,
    )) c.arg-2.ensures
