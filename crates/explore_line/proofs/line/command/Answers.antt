-- The command line that is built is the one that is written down.
use Rattle.std.proofs.Common.{◌∙◌, ◌||◌, ap₂}
use Rattle.std.proofs.lemmas.Result.{IfOk-weaker}
use Rattle.clap.specs.Words.{with_rule}
use Rattle.explore_line.proofs.line.command.Goals as goal

pub returns : goal.returns
returns c =
    let values = c.in_ok-with_values.ensures in
    IfOk-weaker c.arg-2.result _ _ (λ r adds. (
      adds.shape c.file.ensures.local ∙
          ap₂ with_rule (c.in_ok-arg.ensures.shape c.stats.ensures.local ∙ ap₂ with_rule values.0 c.stats.ensures.rule)
          c.file.ensures.rule,
      adds.globals ∙
          ap₂ ◌||◌ (c.in_ok-arg.ensures.globals ∙ ap₂ ◌||◌ values.1 c.stats.ensures.local) c.file.ensures.local,
    )) c.arg-2.ensures
