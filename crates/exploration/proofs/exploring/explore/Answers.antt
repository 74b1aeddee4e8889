use Rattle.std.proofs.Common.{◌≡◌, ◌↔◌, ℕ, ◌∙◌, subst}
use Rattle.language.specs.Resolve.{meaning_of}
use Rattle.language.specs.Rounds.{Unsafe}
use Rattle.language.specs.Sequential.{sequential_of}
use Rattle.checked.specs.Programs.{checked_tree}
use Rattle.turns.specs.Between.{FailsBelow}
use Rattle.exploration.specs.Reports.{IsReport, IsStop, IsCause}
use Rattle.exploration.specs.Searched.{threads_by}
use Rattle.exploration.proofs.LawLemmas.{source_fails}
use Rattle.exploration.proofs.ReportLemmas.{if_ok, if_err, report_same, stop_cause}
use Rattle.exploration.proofs.exploring.explore.Goals as goal

pub returns-clause-report : goal.returns-clause-report
returns-clause-report g c =
    let tree = checked_tree c.args.program.now in
    let procedures : c.as_slice.result.now ≡ (sequential_of tree).threads = c.as_slice.ensures.value
    ∙ c.in-Ok-thread_procedures.ensures.threads in
    let both : (k : ℕ) → Unsafe (meaning_of tree) k ↔ FailsBelow (threads_by c.in-Ok.source (sequential_of tree).threads) k =
    source_fails tree c.in-Ok.source c.in-Ok.ensures.drawn in
    if_ok (IsReport (FailsBelow (threads_by c.in-Ok.source c.as_slice.result.now)) c.args.rounds)
    (IsReport (Unsafe (meaning_of tree)) c.args.rounds)
    c.explore_threads.result
    (λ report is.
    report_same (Unsafe (meaning_of tree)) (FailsBelow (threads_by c.in-Ok.source (sequential_of tree).threads)) both c.args.rounds
    report (subst (λ z. IsReport (FailsBelow (threads_by c.in-Ok.source z)) c.args.rounds report) procedures is))
    c.explore_threads.ensures.report

pub returns-clause-cause : goal.returns-clause-cause
returns-clause-cause g c =
    let tree = checked_tree c.args.program.now in
    let procedures : c.as_slice.result.now ≡ (sequential_of tree).threads = c.as_slice.ensures.value
    ∙ c.in-Ok-thread_procedures.ensures.threads in
    let both : (k : ℕ) → Unsafe (meaning_of tree) k ↔ FailsBelow (threads_by c.in-Ok.source (sequential_of tree).threads) k =
    source_fails tree c.in-Ok.source c.in-Ok.ensures.drawn in
    if_err (IsStop (FailsBelow (threads_by c.in-Ok.source c.as_slice.result.now))) (IsCause tree) c.explore_threads.result
    (λ e is. stop_cause tree (FailsBelow (threads_by c.in-Ok.source (sequential_of tree).threads)) c.in-Ok.ensures.drawn.narrow both e
    (subst (λ z. IsStop (FailsBelow (threads_by c.in-Ok.source z)) e) procedures is))
    c.explore_threads.ensures.stop
