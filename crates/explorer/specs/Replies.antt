-- What a reply says about a text.
use Rattle.std.specs.Prelude.{◌≡◌, ◌⊎◌, ◌++◌, ℕ, List}
use Rattle.language.specs.Tree.{Tree}
use Rattle.language.specs.Resolve.{meaning_of}
use Rattle.language.specs.Rounds as runs
use Rattle.resolved.specs.Narrow.{AllNarrow}
use Rattle.exploration.specs.Reports.{IsReport}
use Rattle.exploration.specs.declared.report.Report.{Report}
use Rattle.explorer.specs.Lines.{NamesOffset, answer_line, answer_status, line_behind, line_of, status_of}
use Rattle.explorer.specs.Refused.{IsProgramOf, RefusalStands}
use Rattle.explore_line.specs.declared.asked.Order.{Order}
use Rattle.explorer.specs.declared.refusal.Refusal.{Refusal}
use Rattle.explorer.specs.declared.refusal.Refusal.TheVariants.{Memory}
use Rattle.streams.specs.Replied as replied
use Rattle.streams.specs.declared.reply.Reply.{Reply}

-- The text is that of a checked program whose procedures have at most 128 places each, of which this report is right
-- for the rounds asked for: it says `Unsafe` if and only if some run of them fails an assert.
pub record Reports (text : List ℕ) (order : Order) (report : Report) : Type 0 where
  pub tree : Tree
  pub of : IsProgramOf text tree
  pub narrow : AllNarrow tree
  pub right : IsReport (runs.Unsafe (meaning_of tree)) order.rounds report

-- The reply with a status of at most 1 has the answer of a report that is right, and then what is asked for.
abbrev pub Replies : List ℕ → Order → List ℕ → ℕ → Type 0
Replies text order bytes status =
    (report : Report) × Reports text order report × (bytes ≡ answer_line report.answer ++ line_behind order.stats report)
    × (status ≡ answer_status report.answer)

-- The reply reports this refusal, and is its line with its status.
abbrev pub TellsRefusal : {A : Type 0} → Refusal → Reply Refusal A → Type 0
TellsRefusal why reply = replied.TellsRefusal line_of status_of why reply

-- The reply reports this refusal; or its line names an offset, and the reply says that memory ran out for it.
abbrev pub TellsOrLacks : {A : Type 0} → Refusal → Reply Refusal A → Type 0
TellsOrLacks why reply = TellsRefusal why reply ⊎ (NamesOffset why × TellsRefusal Memory reply)

-- The refusal stands for the text, whatever was asked.
abbrev pub Stands : List ℕ → Order → Refusal → Type 0
Stands text order why = RefusalStands text why

-- Some refusal stands, and the reply reports it, and is its line with its status.
abbrev pub Refuses : {A : Type 0} → List ℕ → Order → Reply Refusal A → Type 0
Refuses text order reply = replied.Refuses line_of status_of Stands text order reply
