-- What is read from the matches of a command.
use Rattle.std.proofs.Common.{◌≡◌, ◌∙◌, ◌<◌, ◌^◌, ℕ, Bool, List, Option, None, Some, arith}
use Rattle.std.proofs.Common.{option_map, sym, ap, ap₂, subst, codes}
use Rattle.std.specs.Box.{box_value}
use Rattle.std.proofs.lemmas.Option.{none-some, same_Some}
use Rattle.clap.specs.Words.{Row, Text, found_of, rows_of, subcommand_name_of, subcommand_rows_of}
use Rattle.clap.specs.declared.parser.matches.ArgMatches.{ArgMatches}
use Rattle.clap.specs.declared.parser.matches.ArgMatches.TheViews.{out-ArgMatches, out-SubCommand}
use Rattle.clap.specs.declared.parser.matches.Found.{Found}
use Rattle.round_rewrite.specs.Programs.{count_of}
use Rattle.arguments.specs.Found.{IsGiven, ReadsNumber}
use Rattle.command_line.specs.Line.{GivesOrder, CommandGives, IsNamed, Orders}
use Rattle.orders.specs.declared.order.Order.{Order}
use Rattle.orders.specs.declared.order.Order.TheVariants.{Check, Sequential}
use Rattle.path_sets.specs.EdgeLimits.{most_of}

abbrev both : {B : Type 0} → (B → Text) → (B → List Row) → B → Text × List Row
both name rows b = (name b, rows b)

paired : {B : Type 0} (name : B → Text) (rows : B → List Row) (o : Option B) (n : Text) (r : List Row) → option_map name o ≡ Some n
    → option_map (λ (p : Text × List Row). p.1) (option_map (both name rows) o) ≡ Some r → option_map (both name rows) o ≡ Some (n, r)
paired name rows None n r e h = absurd (none-some n e)
paired name rows (Some b) n r e h = ap₂ (λ x y. Some (x, y)) (same_Some (name b) n e) (same_Some (rows b) r h)

-- the command that was met, by its name and its rows
met : (m : ArgMatches) (n : Text) (r : List Row) → subcommand_name_of m ≡ Some n
    → option_map (λ (p : Text × List Row). p.1) (subcommand_rows_of m) ≡ Some r → subcommand_rows_of m ≡ Some (n, r)
met m n r e h = paired (λ b. (out-SubCommand (box_value b)).name.now)
    (λ b. rows_of (found_of (out-SubCommand (box_value b)).matches)) (out-ArgMatches m).subcommand n r e h

-- the same for a command that the matches return
pub is_met : {P : Type 0} (name : P → Text) (found : P → Found) (m : ArgMatches) (o : Option P) (p : P) → o ≡ Some p
    → option_map name o ≡ subcommand_name_of m
    → option_map (λ q. rows_of (found q)) o ≡ option_map (λ (q : Text × List Row). q.1) (subcommand_rows_of m)
    → subcommand_rows_of m ≡ Some (name p, rows_of (found p))
is_met name found m o p was names rows =
    met m (name p) (rows_of (found p)) (sym names ∙ ap (option_map name) was)
    (sym rows ∙ ap (option_map (λ q. rows_of (found q))) was)

-- an order with the name, the numbers and the option without a value that were found is what the command gives
pub gives : (name : Text) (rows : List Row) (k : ℕ) (n : Option ℕ) (s : Option Bool) (o : Order) → IsNamed name k n s o
    → ReadsNumber rows (codes "rounds") k → ((e : ℕ) → n ≡ Some e → ReadsNumber rows (codes "edges") e)
    → ((b : Bool) → s ≡ Some b → IsGiven rows (codes "stats") b) → CommandGives name rows o
gives name rows k n s (Check r e b) h rounds edges stats =
    (h.0, subst (ReadsNumber rows (codes "rounds")) (sym h.1) rounds, edges (most_of e) h.2, stats b h.3)
gives name rows k n s (Sequential r) h rounds edges stats = (h.0, subst (ReadsNumber rows (codes "rounds")) (sym h.1) rounds)

-- each order has a number of rounds, which fits a byte
pub has_rounds : (name : Text) (rows : List Row) (o : Order) → CommandGives name rows o
    → (k : ℕ) × (k < 2 ^ 8) × ReadsNumber rows (codes "rounds") k
has_rounds name rows (Check r e b) h = (count_of r, omega (arith, r.few), h.1)
has_rounds name rows (Sequential r) h = (count_of r, omega (arith, r.few), h.1)

-- an order that was found has the name of its command and what is returned for its options
pub is_named : (name : Text) (rows : List Row) (k : ℕ) (n : Option ℕ) (s : Option Bool) (o : Order) → CommandGives name rows o
    → ((j : ℕ) → j < 2 ^ 8 → ReadsNumber rows (codes "rounds") j → k ≡ j)
    → ((e : ℕ) → e < 2 ^ 32 → ReadsNumber rows (codes "edges") e → n ≡ Some e)
    → ((b : Bool) → IsGiven rows (codes "stats") b → s ≡ Some b) → IsNamed name k n s o
is_named name rows k n s (Check r e b) h rounds edges stats = (
  h.0,
  sym (rounds (count_of r) (omega (arith, r.few)) h.1),
  edges (most_of e) (omega (arith, e.few)) h.2,
  stats b h.3,
)
is_named name rows k n s (Sequential r) h rounds edges stats =
    (h.0, sym (rounds (count_of r) (omega (arith, r.few)) h.1))

-- what was found is an order of the command that was met
pub of_command : (found : Option (Text × List Row)) (command : Text × List Row) (o : Order) (path : Text)
    → found ≡ Some command → GivesOrder found o path → Orders command o path
of_command found command o path is asks =
    subst (λ (c : Text × List Row). Orders c o path) (same_Some asks.0 command (sym asks.1 ∙ is)) asks.2
