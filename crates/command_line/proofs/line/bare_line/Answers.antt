-- The command line without commands is the one that is written down.
use Rattle.std.proofs.Common.{◌∙◌, ap, true}
use Rattle.clap.specs.Simple.{app_of_fields, on_top}
use Rattle.command_line.proofs.line.bare_line.Goals as goal

pub returns : goal.returns
returns c =
    let versioned = ap app_of_fields c.version.ensures ∙
    ap (on_top (λ s. record s { has_version = true })) (ap app_of_fields c.about.ensures ∙ c.new.ensures.app) in
    ap app_of_fields c.subcommand_required.ensures ∙
    ap (on_top (λ s. record s { subcommand_required = true })) (ap app_of_fields c.after_help.ensures ∙ versioned)
