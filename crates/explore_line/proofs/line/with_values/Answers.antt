-- The options that have a value are added.
use Rattle.std.proofs.Common.{◌∙◌, ◌||◌, ap₂}
use Rattle.std.proofs.lemmas.Result.{IfOk-weaker}
use Rattle.clap.specs.Words.{with_rule}
use Rattle.explore_line.proofs.line.with_values.Goals as goal

pub returns : goal.returns
returns c =
    let bare = c.bare_line.ensures in
    IfOk-weaker c.arg-2.result _ _ (λ r adds. (
      adds.shape c.limit.ensures.local ∙
          ap₂ with_rule (c.in_ok-arg.ensures.shape c.rounds.ensures.local ∙ ap₂ with_rule bare.0 c.rounds.ensures.rule)
          c.limit.ensures.rule,
      adds.globals ∙
          ap₂ ◌||◌ (c.in_ok-arg.ensures.globals ∙ ap₂ ◌||◌ bare.1 c.rounds.ensures.local) c.limit.ensures.local,
    )) c.arg-2.ensures
