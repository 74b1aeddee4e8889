-- What a reply says about a text, by what was asked.
use Rattle.std.specs.Prelude.{◌≡◌, ◌⊎◌, ℕ, List, Option}
use Rattle.language.specs.Tree.{Tree}
use Rattle.syntax.specs.Text.{WithinLimits, IsTextOf, Text}
use Rattle.grammar.specs.Printed.{printed}
use Rattle.checked.specs.Checked.{IsChecked}
use Rattle.round_rewrite.specs.Names.{rewritten_for}
use Rattle.path_sets.specs.EdgeLimits.{most_of}
use Rattle.round_rewrite.specs.Programs.{count_of}
use Rattle.orders.specs.Parts.{edges_of, rounds_of}
use Rattle.orders.specs.declared.order.Order.{Order}
use Rattle.orders.specs.declared.order.Order.TheVariants.{Check, Sequential}
use Rattle.refusals.specs.declared.refusal.Refusal.{Refusal}
use Rattle.refusals.specs.declared.refusal.Refusal.TheVariants.{Memory}
use Rattle.streams.specs.Replied as replied
use Rattle.streams.specs.declared.reply.Reply.{Reply}
use Rattle.cli.specs.Verdict.{Answers}
use Rattle.refusals.specs.Lines.{NamesOffset, line_of, status_of}
use Rattle.cli.specs.Refused.{IsPast, RefusalStands}

-- the text is that of a checked program, the bytes are the printed form of its rewriting for K rounds, and within
-- the limits of texts they are a text of that rewriting, offsets aside
pub record IsSequential (text : List ℕ) (rounds : ℕ) (bytes : List ℕ) : Type 0 where
  pub tree : Tree
  pub of : Text text tree
  pub checked : IsChecked tree
  pub same : bytes ≡ printed (rewritten_for rounds tree)
  pub back : WithinLimits bytes → IsTextOf bytes (rewritten_for rounds tree)

-- the reply with a status of at most 1 is what was asked for
abbrev pub Replies : List ℕ → Order → List ℕ → ℕ → Type 0
Replies text (Check rounds edges stats) bytes status = Answers text (count_of rounds) (most_of edges) stats bytes status
Replies text (Sequential rounds) bytes status = (status ≡ 0) × IsSequential text (count_of rounds) bytes

-- a check was asked for, and some procedure of the text's rewriting has more path edges than its limit
abbrev pub IsPastLimit : List ℕ → Order → Type 0
IsPastLimit text order = IsPast text (rounds_of order) (edges_of order)

-- The reply reports this refusal, and is its line with its status.
abbrev pub TellsRefusal : {A : Type 0} → Refusal → Reply Refusal A → Type 0
TellsRefusal why reply = replied.TellsRefusal line_of status_of why reply

-- The reply reports this refusal; or its line names an offset, and the reply says that memory ran out for it.
abbrev pub TellsOrLacks : {A : Type 0} → Refusal → Reply Refusal A → Type 0
TellsOrLacks why reply = TellsRefusal why reply ⊎ (NamesOffset why × TellsRefusal Memory reply)

-- Some refusal stands for K rounds and this limit, and the reply reports it, and is its line with its status.
abbrev pub RefusesFor : {A : Type 0} → List ℕ → ℕ → Option ℕ → Reply Refusal A → Type 0
RefusesFor text rounds limit reply = (why : Refusal) × RefusalStands text rounds limit why × TellsRefusal why reply

-- The refusal stands for what was asked.
abbrev pub Stands : List ℕ → Order → Refusal → Type 0
Stands text order why = RefusalStands text (rounds_of order) (edges_of order) why

-- Some refusal stands for what was asked, and the reply reports it, and is its line with its status.
abbrev pub Refuses : {A : Type 0} → List ℕ → Order → Reply Refusal A → Type 0
Refuses text order reply = replied.Refuses line_of status_of Stands text order reply
