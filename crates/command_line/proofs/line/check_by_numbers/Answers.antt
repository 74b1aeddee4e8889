-- Two options are added.
use Rattle.std.proofs.Common.{◌≡◌, ◌∙◌, ◌||◌, ap, ap₂}
use Rattle.std.proofs.lemmas.Result.{IfOk-weaker}
use Rattle.std.specs.Prelude.{codes, [], ◌∷◌}
use Rattle.clap.specs.Words.{rule_of, with_rule}
use Rattle.clap.specs.declared.builder.arg.Arg.{Arg}
use Rattle.command_line.specs.Line as line
use Rattle.command_line.proofs.line.check_by_numbers.Goals as goal

pub returns : goal.returns
returns c =
    let two : rule_of c.default_value.result ≡ record line.rounds { defaults = codes "2" ∷ [] } =
    ap rule_of c.default_value.ensures ∙ (λ i. record (c.rounds.ensures.rule i) { defaults = codes "2" ∷ [] }) in
    let here = ap (λ (x : Arg). x.global) c.default_value.ensures ∙ c.rounds.ensures.local in
    let bare = c.bare_check.ensures in
    IfOk-weaker c.arg-2.result _ _ (λ r adds. (
      adds.shape c.edges.ensures.local ∙ ap₂ with_rule (c.in_ok-arg.ensures.shape here ∙ ap₂ with_rule bare.0 two) c.edges.ensures.rule,
      adds.globals ∙ ap₂ ◌||◌ (c.in_ok-arg.ensures.globals ∙ ap₂ ◌||◌ bare.1 here) c.edges.ensures.local,
    )) c.arg-2.ensures
