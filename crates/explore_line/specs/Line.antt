-- The command line of bebopk-explore, and what words ask for by it.
use Rattle.std.specs.Prelude.{◌≡◌, ◌⊎◌, ◌≤◌, ⊤, ℕ, Bool, List, [], ◌∷◌, Some, true, codes}
use Rattle.clap.specs.Simple.{on_top}
use Rattle.clap.specs.Words.{App, Row, Rule, Text, fault_of, first_of, matches_of, new_app, with_rule}
use Rattle.clap.specs.declared.builder.value_parser.ValueParser.TheVariants.{String}
use Rattle.arguments.specs.Rules.{file, number_up_to, option_by, stats}
use Rattle.arguments.specs.Found.{IsGiven, IsNumber, ReadsNumber}
use Rattle.arguments.specs.Faults.{Refuses}
use Rattle.arguments.specs.declared.line_fault.LineFault.{LineFault}
use Rattle.arguments.specs.declared.line_fault.LineFault.TheVariants.{Help, Memory, Refused}
use Rattle.exploration.specs.Limits.{most_of}
use Rattle.exploration.specs.declared.limits.Rounds.{Rounds}
use Rattle.exploration.specs.declared.limits.Rounds.TheVariants.{AtMost, All}
use Rattle.exploration.specs.declared.limits.WorkLimit.{WorkLimit}
use Rattle.explore_line.specs.declared.asked.Order.{Order}

-- the greatest number of rounds that may be asked for, and the greatest limit
abbrev pub greatest : ℕ
greatest = 4294967295

-- the option has any text, which reads as rounds or not
abbrev pub rounds : Rule
rounds = record (option_by String (codes "rounds")) { defaults = codes "all" ∷ [] }

abbrev pub limit : Rule
limit = record (number_up_to greatest (codes "limit")) { defaults = codes "40000000" ∷ [] }

-- bebopk-explore --version
abbrev pub bare : App
bare = on_top (λ s. record s { has_version = true }) (new_app (codes "bebopk-explore"))

-- bebopk-explore [--rounds K] [--limit N]
abbrev pub with_values : App
with_values = with_rule (with_rule bare rounds) limit

-- bebopk-explore [--rounds K] [--limit N] [--stats] FILE
abbrev pub bebopk_explore : App
bebopk_explore = with_rule (with_rule with_values stats) file

-- The text reads as this number, which is one from 1 to the greatest.
abbrev pub IsNumberFrom1 : Text → ℕ → Type 0
IsNumberFrom1 t n = IsNumber t n × (1 ≤ n) × (n ≤ greatest)

-- The text reads as these rounds: it is the word for all of them, or their greatest number.
abbrev pub ReadsAs : Text → Rounds → Type 0
ReadsAs t All = t ≡ codes "all"
ReadsAs t (AtMost n) = IsNumberFrom1 t n

-- What was found for the arguments: a text for the rounds, a limit, whether counts are asked for, and a path.
abbrev pub Has : List Row → Text → WorkLimit → Bool → Text → Type 0
Has rows t limit stats path = (first_of (codes "rounds") rows ≡ Some t) × ReadsNumber rows (codes "limit") (most_of limit)
    × IsGiven rows (codes "stats") stats × (first_of (codes "file") rows ≡ Some path)

-- A text, a limit that the option takes, whether counts are asked for, and a path were found.
abbrev pub HasAll : List Row → Type 0
HasAll rows = (t : Text) × (limit : WorkLimit) × (stats : Bool) × (path : Text) × (most_of limit ≤ greatest)
    × Has rows t limit stats path

-- What was found for the arguments is this order on this file.
abbrev pub Orders : List Row → Order → Text → Type 0
Orders rows order path = (t : Text) × Has rows t order.limit order.stats path × ReadsAs t order.rounds

-- The command line accepts the words, the program's own name first, and gives this order on this file for them.
pub record AskFor (words : List Text) (order : Order) (path : Text) : Type 0 where
  pub taken : fault_of bebopk_explore words ≡ []
  pub orders : Orders (matches_of bebopk_explore words) order path

-- The command line accepts the words, but the text that was found for the rounds reads as none.
pub record NamesNoRounds (words : List Text) : Type 0 where
  pub taken : fault_of bebopk_explore words ≡ []
  pub text : Text
  pub found : first_of (codes "rounds") (matches_of bebopk_explore words) ≡ Some text
  pub none : (rounds : Rounds) → ¬ ReadsAs text rounds

-- The words give no order: the command line does not accept them, since they ask for help or for the version, or have
-- another fault; or they name no rounds. Memory may run out for any words.
abbrev pub RefusesWords : List Text → LineFault → Type 0
RefusesWords words (Refused why) = Refuses bebopk_explore words (Refused why) ⊎ NamesNoRounds words
RefusesWords words (Help text) = Refuses bebopk_explore words (Help text)
RefusesWords words Memory = ⊤

-- The fault is that the words are refused, or that memory ran out.
abbrev pub IsRefusedOrMemory : LineFault → Type 0
IsRefusedOrMemory (Help text) = ⊥
IsRefusedOrMemory _ = ⊤
