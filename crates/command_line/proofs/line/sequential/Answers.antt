-- The command that is built is the one that is written down.
use Rattle.std.proofs.Common.{◌≡◌, ◌∙◌, ◌||◌, ap, ap₂, true}
use Rattle.std.proofs.lemmas.Result.{IfOk-weaker}
use Rattle.clap.specs.Simple.{app_of_fields}
use Rattle.clap.specs.Words.{rule_of, with_rule}
use Rattle.clap.specs.declared.builder.arg.Arg.{Arg}
use Rattle.command_line.specs.Line as line
use Rattle.command_line.proofs.line.sequential.Goals as goal

pub returns : goal.returns
returns c =
    let asked : rule_of c.required.result ≡ record line.rounds { required = true } =
    ap rule_of c.required.ensures ∙ (λ i. record (c.rounds.ensures.rule i) { required = true }) in
    let here = ap (λ (x : Arg). x.global) c.required.ensures ∙ c.rounds.ensures.local in
    let plain = ap app_of_fields c.after_help.ensures ∙ ap app_of_fields c.about.ensures ∙ c.new.ensures.app in
    let local = ap (λ f. f.has_globals) c.after_help.ensures ∙ ap (λ f. f.has_globals) c.about.ensures ∙ c.new.ensures.local in
    IfOk-weaker c.arg-2.result _ _ (λ r adds. (
      adds.shape c.file.ensures.local ∙ ap₂ with_rule (c.in_ok-arg.ensures.shape here ∙ ap₂ with_rule plain asked) c.file.ensures.rule,
      adds.globals ∙ ap₂ ◌||◌ (c.in_ok-arg.ensures.globals ∙ ap₂ ◌||◌ local here) c.file.ensures.local,
    )) c.arg-2.ensures
