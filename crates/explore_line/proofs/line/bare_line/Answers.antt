-- The command line without arguments is the one that is written down.
use Rattle.std.proofs.Common.{◌∙◌, ap, true}
use Rattle.clap.specs.Simple.{app_of_fields, on_top}
use Rattle.explore_line.proofs.line.bare_line.Goals as goal

pub returns : goal.returns
returns c = (
  ap app_of_fields c.after_help.ensures ∙ ap app_of_fields c.version.ensures ∙
      ap (on_top (λ s. record s { has_version = true })) (ap app_of_fields c.about.ensures ∙ c.new.ensures.app),
  ap (λ f. f.has_globals) c.after_help.ensures ∙ ap (λ f. f.has_globals) c.version.ensures
      ∙ ap (λ f. f.has_globals) c.about.ensures ∙ c.new.ensures.local,
)
