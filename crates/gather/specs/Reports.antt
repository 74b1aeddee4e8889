-- What a report says of a program.
use Rattle.std.specs.Prelude.{◌≡◌, ◌↔◌, ℕ, true, List, Some, map, length, slice_get}
use Rattle.language.specs.Tree.{Tree}
use Rattle.language.specs.Step.{Program}
use Rattle.language.specs.Lists.{Member, NoneTwice}
use Rattle.language.specs.Resolve.{meaning_of}
use Rattle.language.specs.Rounds.{Unsafe}
use Rattle.language.specs.Sequential.{IsDue}
use Rattle.post_ledger.specs.declared.event.Event.{Event}
use Rattle.post_ledger.specs.History.{posts}
use Rattle.round_rewrite.specs.Names.{sequential_for}
use Rattle.round_rewrite.specs.Narrow.{IsNarrowFor}
use Rattle.flow_graph.specs.Numbers.{NumberedMessage, IsNumberOf}
use Rattle.summaries.specs.declared.due.Caller.TheVariants.{Proc, Starter}
use Rattle.summaries.specs.declared.due.Due.{Due}
use Rattle.summaries.specs.declared.due.Due.TheVariants.{Entry, Summary}
use Rattle.summaries.specs.declared.no_verdict.NoVerdict.{NoVerdict}
use Rattle.summaries.specs.declared.no_verdict.NoVerdict.TheVariants as verdict
use Rattle.summaries.specs.Dues.{due_of}
use Rattle.summaries.specs.Effects.{Effects}
use Rattle.summaries.specs.Tabulated.{AreSummaries, HasMoreEdges, SomePairBad}
use Rattle.gather.specs.declared.report.Answer.TheVariants as answer
use Rattle.gather.specs.declared.report.Report.{Report}
use Rattle.gather.specs.Through.{AreThrough}

-- the messages that were posted to a mailbox, in order
abbrev pub posted_to : {M : Type 0} → List (Event M) → List M
posted_to {M} h = map (λ (posted : ℕ × M). posted.1) (posts h)

-- the number of the sender of a message, if the starter has this number: an entry is sent by its caller, a summary by
-- the procedure that it is of
abbrev pub sender_of : ℕ → Due → ℕ
sender_of starter (Entry Starter a) = starter
sender_of starter (Entry (Proc c) a) = c
sender_of starter (Summary s r a b) = s

-- The messages posted are those that are due for procedure q, each once, and each was posted by its sender, if the
-- starter's number is that of the procedures.
pub record AreDueOnce (program : Program) (procedure : ℕ) (history : List (Event Due)) : Type 0 where
  pub once : NoneTwice (posted_to history)
  pub all : (numbered : NumberedMessage) → Member (due_of numbered) (posted_to history) ↔ IsNumberOf (IsDue program procedure) numbered
  pub senders : (sender : ℕ) (message : Due) → Member (sender, message) (posts history)
      → sender ≡ sender_of (length program.routines) message

-- What the workers of a sequential program have done and found. In each mailbox each message posted was taken once,
-- each sender's in the order of posting, and nothing was posted after the close; the messages posted are those due
-- there, each once and by its sender; the summaries are exactly the entries and pairs of each procedure; and no
-- procedure has more path edges than `most`.
pub record IsFound (program : Program) (most : ℕ) (histories : List (List (Event Due))) (effects : Effects) : Type 0 where
  pub through : AreThrough (length program.routines) histories
  pub due : (procedure : ℕ) (history : List (Event Due)) → slice_get histories procedure ≡ Some history
      → AreDueOnce program procedure history
  pub summaries : AreSummaries program effects
  pub few : (procedure : ℕ) → HasMoreEdges program procedure most → ⊥

-- The report on a source for K rounds: its workers have found what there is in its rewriting, and its board is
-- closed; the answer is `Unsafe`, and some pair of `main__` is bad, if and only if some run of at most K
-- rounds fails an assert.
pub record IsReport {H Alloc : Type 0} (source : Tree) (rounds most : ℕ) (report : Report H Alloc) : Type 0 where
  pub found : IsFound (sequential_for rounds source) most report.ledger.histories.items report.summaries
  pub closed : report.ledger.closed ≡ true
  pub answer : (report.answer ≡ answer.Unsafe) ↔ Unsafe (meaning_of source) rounds
  pub bad : SomePairBad report.summaries ↔ Unsafe (meaning_of source) rounds
  pub narrow : IsNarrowFor rounds source

-- What one thread finds of a source for K rounds: the summaries are those of its rewriting, in which no procedure
-- has more path edges than `most`, and some pair of `main__` is bad if and only if some run of at most K rounds
-- fails an assert.
pub record IsTabulated (source : Tree) (rounds most : ℕ) (effects : Effects) : Type 0 where
  pub summaries : AreSummaries (sequential_for rounds source) effects
  pub few : (procedure : ℕ) → HasMoreEdges (sequential_for rounds source) procedure most → ⊥
  pub bad : SomePairBad effects ↔ Unsafe (meaning_of source) rounds
  pub narrow : IsNarrowFor rounds source

-- Why there is no report: the rewriting is too wide, and only then; the procedure of it with this number has more path
-- edges than `most`; memory or a thread was refused, or a worker has used up its calls.
abbrev pub IsNoReport : Tree → ℕ → ℕ → NoVerdict → Type 0
IsNoReport source rounds most verdict.TooWide = IsNarrowFor rounds source → ⊥
IsNoReport source rounds most (verdict.EdgeLimit q) =
    IsNarrowFor rounds source × HasMoreEdges (sequential_for rounds source) q most
IsNoReport source rounds most verdict.Memory = IsNarrowFor rounds source
IsNoReport source rounds most verdict.NoWorker = IsNarrowFor rounds source
IsNoReport source rounds most verdict.Spent = IsNarrowFor rounds source
