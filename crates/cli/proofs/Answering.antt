-- What a report says about its program, and what a reply says about the report.
use Rattle.std.proofs.Common.{◌≡◌, ◌∙◌, ◌↔◌, ◌++◌, ℕ, Bool, true, false, List}
use Rattle.std.proofs.Common.{inl, inr, refl, sym, ap, subst, arith, length}
use Rattle.std.proofs.lemmas.List.{length-map}
use Rattle.language.specs.Tree.{Procedure, Tree}
use Rattle.language.specs.Resolve.{meaning_of}
use Rattle.language.specs.Rounds as runs
use Rattle.language.specs.Step.{Program}
use Rattle.checked.specs.Checked.{IsChecked}
use Rattle.round_rewrite.proofs.Widths.{few_procedures}
use Rattle.post_ledger.specs.declared.event.Event.{Event}
use Rattle.post_ledger.specs.History.{posts, takes}
use Rattle.language.specs.Lists.{Member}
use Rattle.language.specs.Sequential.{caller, starter}
use Rattle.flow_graph.specs.Numbers.{NumberedMessage, numbered_entry, numbered_summary}
use Rattle.summaries.specs.declared.due.Caller.TheVariants.{Proc, Starter}
use Rattle.summaries.specs.declared.due.Due.{Due}
use Rattle.summaries.specs.declared.due.Due.TheVariants.{Entry, Summary}
use Rattle.summaries.specs.Found.{left}
use Rattle.summaries.specs.Dues.{due_of}
use Rattle.summaries.specs.Fitting.{IsDueFor}
use Rattle.cli.specs.Counts.{AreSoMany, procedure_names}
use Rattle.cli.specs.Counted.{HasEach, answer_line, answer_status, lines_behind}
use Rattle.cli.specs.Refused.{HasRewriting}
use Rattle.gather.specs.Reports.{AreDueOnce, IsReport, posted_to}
use Rattle.cli.specs.Verdict.{Answers, AnswersOn, ComesBehind, IsProgramOf}
use Rattle.gather.specs.declared.report.Answer.{Answer}
use Rattle.gather.specs.declared.report.Answer.TheVariants.{Safe, Unsafe}
use Rattle.gather.specs.declared.report.Report.{Report}
use Rattle.cli.proofs.Counting.{as_many_names, tell_counts}

-- the message by numbers
abbrev by_number : Due → NumberedMessage
by_number (Entry Starter a) = numbered_entry starter a
by_number (Entry (Proc q) a) = numbered_entry (caller q) a
by_number (Summary p r a b) = numbered_summary p a (left b r)

same_message : (d : Due) → due_of (by_number d) ≡ d
same_message (Entry Starter a) = refl
same_message _ = refl

-- the messages posted are those due
due_members : (p : Program) (q : ℕ) (h : List (Event Due)) → AreDueOnce p q h → (d : Due)
    → Member d (posted_to h) ↔ IsDueFor p q d
due_members p q h due d = (
  λ m k is. (due.all k).0 (subst (λ x. Member x (posted_to h)) (sym is) m),
  λ is. subst (λ x. Member x (posted_to h)) (same_message d) ((due.all (by_number d)).1 (is (by_number d) (same_message d))),
)

-- as many messages were taken as are due
due_many : (p : Program) (q : ℕ) (h : List (Event Due)) → AreDueOnce p q h → takes h ≡ posts h
    → AreSoMany (IsDueFor p q) (length (takes h))
due_many p q h due taken = record {
  all = posted_to h;
  once = due.once;
  members = due_members p q h due;
  many = length-map (posts h) (λ (x : ℕ × Due). x.1) ∙ ap length (sym taken);
}

-- a report on a checked program covers each of its procedures
pub has_each : {H A : Type 0} (rounds most : ℕ) (t : Tree) (r : Report H A) → IsChecked t → IsReport t rounds most r
    → HasEach (procedure_names t) r
has_each rounds most t r checked h = record {
  summaries = h.found.summaries.0 ∙ as_many_names rounds t;
  mailboxes = h.found.through.all ∙ as_many_names rounds t;
  few =
      let few = few_procedures t checked in
      let same = length-map t.procedures (λ (p : Procedure). p.name.text) in
      omega (arith, few, same);
}

-- the lines after the answer are what is asked for
lines_follow : {H A : Type 0} (rounds most : ℕ) (t : Tree) (r : Report H A) → IsReport t rounds most r → (stats : Bool)
    → ComesBehind stats rounds t (lines_behind stats (procedure_names t) r)
lines_follow rounds most t r h false = refl
lines_follow rounds most t r h true =
    tell_counts t rounds r.summaries r.ledger.histories.items h.found.summaries h.found.through.all
    (λ q history at. due_many _ q history (h.found.due q history at) (h.found.through.each_taken q history at))

-- what a reply says about an answer is what the answer says
answered : (t : Tree) (rounds : ℕ) (stats : Bool) (a : Answer)
    → ((a ≡ Unsafe) ↔ runs.Unsafe (meaning_of t) rounds) → (lines : List ℕ) → ComesBehind stats rounds t lines
    → (bytes : List ℕ) (status : ℕ) → bytes ≡ answer_line a ++ lines → status ≡ answer_status a
    → AnswersOn t rounds stats bytes status
answered t rounds stats Safe iff lines follows bytes status e s =
    (lines, follows, inr (e, s, λ u. let bad = iff.1 u in cc))
answered t rounds stats Unsafe iff lines follows bytes status e s = (lines, follows, inl (e, s, iff.0 refl))

-- so the reply to a text with a report is the answer on its program
pub answers : {H A : Type 0} (text : List ℕ) (rounds most : ℕ) (t : Tree) (r : Report H A) (stats : Bool)
    → IsProgramOf text t → IsReport t rounds most r
    → (bytes : List ℕ) (status : ℕ) → bytes ≡ answer_line r.answer ++ lines_behind stats (procedure_names t) r
    → status ≡ answer_status r.answer
    → Answers text rounds most stats bytes status
answers text rounds most t r stats of h bytes status e s =
    let follows = lines_follow rounds most t r h stats in
    (t, of.0, of.1, h.found.few, answered t rounds stats r.answer h.answer _ follows bytes status e s)

-- if there is a report, the text has a rewriting that is not too wide
pub reported_rewriting : {H A : Type 0} (text : List ℕ) (rounds most : ℕ) (t : Tree) (r : Report H A)
    → IsProgramOf text t → IsReport t rounds most r
    → HasRewriting text rounds
reported_rewriting text rounds most t r of h = (t, of.0, of.1, h.narrow)
