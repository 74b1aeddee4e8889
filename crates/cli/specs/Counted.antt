-- What a reply says about a report: its answer, and the lengths of its lists.
use Rattle.std.specs.Prelude.{◌≡◌, ◌≤◌, ℕ, Bool, true, false, List, [], ◌∷◌, codes, length}
use Rattle.post_ledger.specs.declared.event.Event.{Event}
use Rattle.post_ledger.specs.History.{takes}
use Rattle.summaries.specs.declared.due.Due.{Due}
use Rattle.summaries.specs.Effects.{Effect}
use Rattle.cli.specs.Counts.{Counts, counts_lines}
use Rattle.gather.specs.declared.report.Answer.{Answer}
use Rattle.gather.specs.declared.report.Answer.TheVariants.{Safe, Unsafe}
use Rattle.gather.specs.declared.report.Report.{Report}

-- what is counted of a procedure by what it does as a whole and the history of its mailbox
abbrev pub counted : Effect → List (Event Due) → Counts
counted summary history = record { entries = length summary.entries; pairs = length summary.pairs; taken = length (takes history) }

-- what is counted of each procedure, by number
abbrev pub counted_each : List Effect → List (List (Event Due)) → List Counts
counted_each [] histories = []
counted_each (summary ∷ summaries) [] = []
counted_each (summary ∷ summaries) (history ∷ histories) = counted summary history ∷ counted_each summaries histories

-- the line of an answer
abbrev pub answer_line : Answer → List ℕ
answer_line Safe = codes "safe\n"
answer_line Unsafe = codes "unsafe\n"

-- the status of an answer
abbrev pub answer_status : Answer → ℕ
answer_status Safe = 0
answer_status Unsafe = 1

module _ {H A : Type 0} where
  -- what comes after the answer of a report, of procedures with these names: nothing, or, if it is asked for,
  -- their lines
  abbrev pub lines_behind : Bool → List (List ℕ) → Report H A → List ℕ
  lines_behind false names report = []
  lines_behind true names report = counts_lines names (counted_each report.summaries.procedures report.ledger.histories.items)

  -- The report has a summary and a mailbox for each of these procedures, of which there are at most 32.
  pub record HasEach (names : List (List ℕ)) (report : Report H A) : Type 0 where
    pub summaries : length report.summaries.procedures ≡ length names
    pub mailboxes : length report.ledger.histories.items ≡ length names
    pub few : length names ≤ 32
