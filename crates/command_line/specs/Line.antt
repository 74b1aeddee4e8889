-- The command line of bebopk, and what words ask for by it.
use Rattle.std.specs.Prelude.{◌≡◌, ℕ, Bool, List, [], ◌∷◌, Option, Some, true, codes}
use Rattle.clap.specs.Simple.{on_top}
use Rattle.clap.specs.Words.{App, Row, Rule, Text, fault_of}
use Rattle.clap.specs.Words.{first_of, new_app, subcommand_of, with_rule, with_subcommand}
use Rattle.arguments.specs.Rules.{file, number_up_to, stats}
use Rattle.arguments.specs.Found.{IsGiven, ReadsNumber}
use Rattle.arguments.specs.Faults.{Refuses}
use Rattle.arguments.specs.declared.line_fault.LineFault.{LineFault}
use Rattle.round_rewrite.specs.Limits.{most_rounds}
use Rattle.round_rewrite.specs.Programs.{count_of}
use Rattle.path_sets.specs.EdgeLimits.{most_of}
use Rattle.path_sets.specs.Limits.{most_edges}
use Rattle.orders.specs.declared.order.Order.{Order}
use Rattle.orders.specs.declared.order.Order.TheVariants.{Check, Sequential}

abbrev pub rounds : Rule
rounds = number_up_to most_rounds (codes "rounds")

abbrev pub edges : Rule
edges = record (number_up_to most_edges (codes "edges")) { defaults = codes "1000000" ∷ [] }

-- check [--rounds K] [--edges N]
abbrev pub check_by_numbers : App
check_by_numbers = with_rule (with_rule (new_app (codes "check")) (record rounds { defaults = codes "2" ∷ [] })) edges

-- check [--rounds K] [--edges N] [--stats] FILE
abbrev pub check : App
check = with_rule (with_rule check_by_numbers stats) file

-- sequential --rounds K FILE
abbrev pub sequential : App
sequential = with_rule (with_rule (new_app (codes "sequential")) (record rounds { required = true })) file

-- bebopk --version, or bebopk with a command
abbrev pub bare : App
bare = on_top (λ s. record s { has_version = true; subcommand_required = true }) (new_app (codes "bebopk"))

-- bebopk check .., bebopk sequential .., or bebopk --version
abbrev pub bebopk : App
bebopk = with_subcommand (with_subcommand bare check.top) sequential.top

-- A command of this name, with what was found for its options, is the order.
abbrev pub CommandGives : Text → List Row → Order → Type 0
CommandGives name rows (Check k n s) =
    (name ≡ codes "check") × ReadsNumber rows (codes "rounds") (count_of k) × ReadsNumber rows (codes "edges") (most_of n)
    × IsGiven rows (codes "stats") s
CommandGives name rows (Sequential k) = (name ≡ codes "sequential") × ReadsNumber rows (codes "rounds") (count_of k)

-- A command of this name with these numbers, and this option without a value, is the order.
abbrev pub IsNamed : Text → ℕ → Option ℕ → Option Bool → Order → Type 0
IsNamed name k n s (Check rounds edges stats) =
    (name ≡ codes "check") × (count_of rounds ≡ k) × (n ≡ Some (most_of edges)) × (s ≡ Some stats)
IsNamed name k n s (Sequential rounds) = (name ≡ codes "sequential") × (count_of rounds ≡ k)

-- What was found for a command is this order on this file.
abbrev pub Orders : Text × List Row → Order → Text → Type 0
Orders command order path = CommandGives command.0 command.1 order × (first_of (codes "file") command.1 ≡ Some path)

-- What was found for the words is this order on this file.
abbrev pub GivesOrder : Option (Text × List Row) → Order → Text → Type 0
GivesOrder found order path = (command : Text × List Row) × (found ≡ Some command) × Orders command order path

-- The command line accepts the words, the program's own name first, and gives this order on this file for them.
pub record AskFor (words : List Text) (order : Order) (path : Text) : Type 0 where
  pub taken : fault_of bebopk words ≡ []
  pub command : Text × List Row
  pub met : subcommand_of bebopk words ≡ Some command
  pub orders : Orders command order path

-- The command line does not accept the words: they ask for help or for the version, or have another fault. Memory may
-- run out for any words.
abbrev pub RefusesWords : List Text → LineFault → Type 0
RefusesWords = Refuses bebopk
