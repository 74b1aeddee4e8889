-- What an exploration reports of a program.
use Rattle.std.specs.Prelude.{◌≡◌, ◌↔◌, ◌<◌, ◌+◌, ℕ, suc, true, false, length}
use Rattle.language.specs.Tree.{Tree}
use Rattle.language.specs.Resolve.{meaning_of}
use Rattle.language.specs.Rounds.{Unsafe}
use Rattle.resolved.specs.Narrow.{AllNarrow}
use Rattle.stack_sets.specs.Nodes.{nodes_in}
use Rattle.exploration.specs.declared.limits.Rounds.{Rounds}
use Rattle.exploration.specs.declared.limits.Rounds.TheVariants.{AtMost, All}
use Rattle.exploration.specs.declared.report.Answer.TheVariants as answers
use Rattle.exploration.specs.declared.report.NoVerdict.{NoVerdict}
use Rattle.exploration.specs.declared.report.NoVerdict.TheVariants as cause
use Rattle.exploration.specs.declared.report.Report.{Report}
use Rattle.exploration.specs.declared.searching.End.{End}
use Rattle.exploration.specs.declared.searching.End.TheVariants.{Fails, Holds, Settles}
use Rattle.exploration.specs.declared.searching.Search.{Search}
use Rattle.exploration.specs.Turns.{turns_in}

-- Where it is said of each number of rounds whether some run of them fails: some run of the rounds asked for does.
abbrev pub SomeAskedFails : (ℕ → Type 0) → Rounds → Type 0
SomeAskedFails FailsIn (AtMost most) = FailsIn most
SomeAskedFails FailsIn All = (k : ℕ) × FailsIn k

-- The report is right, where it is said of each number of rounds whether some run of them fails: the answer is `Unsafe`
-- if and only if some run of the rounds asked for fails, and then the number of rounds is the least of which one does;
-- where it is settled, no run of any number of rounds fails; and where it is `Safe` and not settled, the number of
-- rounds is that asked for.
pub record IsReport (FailsIn : ℕ → Type 0) (rounds : Rounds) (report : Report) : Type 0 where
  pub answer : (report.answer ≡ answers.Unsafe) ↔ SomeAskedFails FailsIn rounds
  pub least : report.answer ≡ answers.Unsafe → FailsIn report.rounds × ((k : ℕ) → k < report.rounds → FailsIn k → ⊥)
  pub explored : report.answer ≡ answers.Safe → report.settled ≡ false → rounds ≡ AtMost report.rounds
  pub settled : report.settled ≡ true → (k : ℕ) → FailsIn k → ⊥

-- Why there is no report: some procedure of the tree has more than 128 places, and only then; memory was refused; or
-- the limit was reached, and no run of this number of rounds fails.
abbrev pub IsCause : Tree → NoVerdict → Type 0
IsCause tree cause.TooWide = AllNarrow tree → ⊥
IsCause tree cause.Memory = AllNarrow tree
IsCause tree (cause.Limit rounds) = AllNarrow tree × (Unsafe (meaning_of tree) rounds → ⊥)

-- where a search was stopped by the limit, no run of this number of rounds fails
abbrev pub IsStop : (ℕ → Type 0) → NoVerdict → Type 0
IsStop FailsIn cause.TooWide = ⊥
IsStop FailsIn cause.Memory = Unit {0}
IsStop FailsIn (cause.Limit rounds) = FailsIn rounds → ⊥

-- the report says how a search has ended
abbrev pub SaysEnd : End → Report → Type 0
SaysEnd (Fails round) report = (report.answer ≡ answers.Unsafe) × (report.rounds ≡ suc round) × (report.settled ≡ false)
SaysEnd (Holds rounds) report = (report.answer ≡ answers.Safe) × (report.rounds ≡ rounds) × (report.settled ≡ false)
SaysEnd (Settles rounds) report = (report.answer ≡ answers.Safe) × (report.rounds ≡ rounds) × (report.settled ≡ true)

-- the turn that fails, if one does; it is not kept
abbrev pub failed_turns : End → ℕ
failed_turns (Fails round) = 1
failed_turns (Holds rounds) = 0
failed_turns (Settles rounds) = 0

-- The report counts what a search of so much work has made, found and met: what it found and met is what is not left of
-- the work.
pub record CountsSearch {Alloc : Type 0} (search : Search Alloc) (end : End) (most : ℕ) (report : Report) : Type 0 where
  pub turns : report.turns ≡ length (turns_in search.turns) + failed_turns end
  pub heads : report.heads + report.tuples + search.left ≡ most
  pub tuples : report.tuples ≡ length search.tuples.keys
  pub nodes : report.nodes ≡ length (nodes_in search.sets)
