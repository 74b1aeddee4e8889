-- Reports that are right.
use Rattle.std.proofs.Common.{◌≡◌, ◌↔◌, ℕ, suc, Result, Ok, Err, IfOk, IfErr, sym, ◌∙◌, subst, arith, true≢false, true, ap}
use Rattle.language.specs.Tree.{Tree}
use Rattle.language.specs.Resolve.{meaning_of}
use Rattle.language.specs.Rounds.{Unsafe}
use Rattle.resolved.specs.Narrow.{AllNarrow}
use Rattle.turns.specs.Between.{Threads, FailsBelow}
use Rattle.turns.specs.declared.numbered_frame.NumberedFrame.{NumberedFrame}
use Rattle.exploration.specs.declared.limits.Rounds.{Rounds}
use Rattle.exploration.specs.declared.limits.Rounds.TheVariants.{AtMost, All}
use Rattle.exploration.specs.declared.report.Answer.TheVariants as answers
use Rattle.exploration.specs.declared.report.NoVerdict.{NoVerdict}
use Rattle.exploration.specs.declared.report.NoVerdict.TheVariants as cause
use Rattle.exploration.specs.declared.report.Report.{Report}
use Rattle.exploration.specs.declared.searching.End.{End}
use Rattle.exploration.specs.declared.searching.End.TheVariants.{Fails, Holds, Settles}
use Rattle.exploration.specs.Limits.{IsAsked}
use Rattle.exploration.specs.Ends.{IsEnd}
use Rattle.exploration.specs.Reports.{SomeAskedFails, IsReport, SaysEnd, IsStop, IsCause}
use Rattle.exploration.proofs.ComeLemmas.{fails_more}

-- a report that is right of what is the same
pub report_same : (P Q : ℕ → Type 0) → ((k : ℕ) → P k ↔ Q k) → (rounds : Rounds) (report : Report) → IsReport Q rounds report
    → IsReport P rounds report
report_same P Q both rounds report is = record {
  answer = (λ e. asked_back rounds (is.answer.0 e), λ bad. is.answer.1 (asked rounds bad));
  least = λ e. ((both report.rounds).1 (is.least e).0, λ k small bad. (is.least e).1 k small ((both k).0 bad));
  explored = is.explored;
  settled = λ e k bad. is.settled e k ((both k).0 bad);
}
  where
    asked : (rounds : Rounds) → SomeAskedFails P rounds → SomeAskedFails Q rounds
    asked (AtMost most) bad = (both most).0 bad
    asked All (k, bad) = (k, (both k).0 bad)

    asked_back : (rounds : Rounds) → SomeAskedFails Q rounds → SomeAskedFails P rounds
    asked_back (AtMost most) bad = (both most).1 bad
    asked_back All (k, bad) = (k, (both k).1 bad)

module _ (p : Threads ℕ NumberedFrame) where
  -- the answer is not both
  safe_not : (report : Report) → report.answer ≡ answers.Safe → report.answer ≡ answers.Unsafe → ⊥
  safe_not report safe bad = cc

  -- no run of any rounds fails
  pub settled_report : (rounds : Rounds) (report : Report) → report.answer ≡ answers.Safe → report.settled ≡ true
      → ((k : ℕ) → FailsBelow p k → ⊥) → IsReport (FailsBelow p) rounds report
  settled_report rounds report safe done holds = record {
    answer = (λ e. absurd (safe_not report safe e), λ bad. absurd (none rounds bad));
    least = λ e. absurd (safe_not report safe e);
    explored = λ _ no. absurd (true≢false (sym done ∙ no));
    settled = λ e k bad. holds k bad;
  }
    where
      none : (rounds : Rounds) → SomeAskedFails (FailsBelow p) rounds → ⊥
      none (AtMost most) bad = holds most bad
      none All (k, bad) = holds k bad

  some_fails : (rounds : Rounds) (r : ℕ) → IsAsked rounds r → FailsBelow p r → SomeAskedFails (FailsBelow p) rounds
  some_fails (AtMost most) r asked bad = fails_more p r most asked bad
  some_fails All r asked bad = (r, bad)

  -- a report that says a right end is right
  pub ended_report : (rounds : Rounds) (end : End) (report : Report) → IsEnd p rounds end → SaysEnd end report
      → IsReport (FailsBelow p) rounds report
  ended_report rounds (Fails round) report (bad, holds, asked) (is_bad, same, open_end) = record {
    answer = (λ e. some_fails rounds (suc round) asked bad, λ some. is_bad);
    least = λ e. (
      subst (FailsBelow p) (sym same) bad,
      λ k small less. holds (fails_more p k round (omega (arith, small, same)) less),
    );
    explored = λ e _. absurd (safe_not report e is_bad);
    settled = λ e. absurd (true≢false (sym e ∙ open_end));
  }
  ended_report rounds (Holds explored) report (holds, all) (safe, same, open_end) = record {
    answer = (
      λ e. absurd (safe_not report safe e),
      λ some. absurd (holds (subst (SomeAskedFails (FailsBelow p)) all some)),
    );
    least = λ e. absurd (safe_not report safe e);
    explored = λ _ _. all ∙ ap AtMost (sym same);
    settled = λ e. absurd (true≢false (sym e ∙ open_end));
  }
  ended_report rounds (Settles explored) report holds (safe, same, is) =
      settled_report rounds report safe is holds

-- what holds of a result holds of it in other words
pub if_ok : {T E : Type 0} (P Q : T → Type 0) (r : Result T E) → ((x : T) → P x → Q x) → IfOk r P → IfOk r Q
if_ok P Q (Ok x) then is = then x is
if_ok P Q (Err e) then is = is

pub if_err : {T E : Type 0} (P Q : E → Type 0) (r : Result T E) → ((e : E) → P e → Q e) → IfErr r P → IfErr r Q
if_err P Q (Ok x) then is = is
if_err P Q (Err e) then is = then e is

-- why a search was stopped is why there is no report
pub stop_cause : (tree : Tree) (Q : ℕ → Type 0) → AllNarrow tree → ((k : ℕ) → Unsafe (meaning_of tree) k ↔ Q k) → (e : NoVerdict)
    → IsStop Q e → IsCause tree e
stop_cause tree Q narrow both cause.TooWide is = absurd is
stop_cause tree Q narrow both cause.Memory is = narrow
stop_cause tree Q narrow both (cause.Limit rounds) is = (narrow, λ bad. is ((both rounds).0 bad))
