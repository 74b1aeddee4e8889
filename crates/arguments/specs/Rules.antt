-- The arguments that each command line has.
use Rattle.std.specs.Prelude.{◌≡◌, ℕ, Some, true, false, pos, codes}
use Rattle.clap.specs.Words.{App, Rule, Text, app_of, new_rule}
use Rattle.clap.specs.declared.builder.action.ArgAction.TheVariants.{SetTrue}
use Rattle.clap.specs.declared.builder.command.Command.{Command}
use Rattle.clap.specs.declared.builder.command.Command.TheViews.{out-Command as fields_of}
use Rattle.clap.specs.declared.builder.value_parser.ValueParser.{ValueParser}
use Rattle.clap.specs.declared.builder.value_parser.ValueParser.TheVariants.{Signed}

-- an option with one value, which this parser reads
abbrev pub option_by : ValueParser → Text → Rule
option_by parser name = record (new_rule name) { long = Some name; value_names = 1; parser = Some parser }

-- an option that takes a number from 1 to the greatest one
abbrev pub number_up_to : ℕ → Text → Rule
number_up_to most = option_by (Signed (pos 1) (pos most))

-- an option without a value
abbrev pub stats : Rule
stats = record (new_rule (codes "stats")) { long = Some (codes "stats"); action = Some SetTrue }

abbrev pub file : Rule
file = record (new_rule (codes "file")) { value_names = 1; required = true }

-- The command is the one written down, and it shares no option with commands below it.
abbrev pub IsBuilt : App → Command → Type 0
IsBuilt app command = (app_of command ≡ app) × ((fields_of command).has_globals ≡ false)
