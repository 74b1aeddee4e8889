-- The report is on the rewriting, which keeps the failing asserts.
use Rattle.std.proofs.Common.{Err, sym, ◌∙◌, subst, true≢false, rules}
use Rattle.std.proofs.lemmas.Result.{err_from_is_err_and}
use Rattle.language.specs.Sequential.{sequential_of}
use Rattle.language.specs.Tree.{Tree}
use Rattle.flow_graph.specs.Drawn.{bad_of}
use Rattle.flow_graph.specs.Graphs.{AreDrawnFrom}
use Rattle.resolved.specs.Narrow.{AllNarrow}
use Rattle.round_rewrite.specs.Names.{sequential_for}
use Rattle.round_rewrite.specs.Programs.{count_of}
use Rattle.resolved.specs.Programs.{sequential_tree}
use Rattle.checked.specs.Programs.{checked_tree}
use Rattle.path_sets.specs.EdgeLimits.{most_of}
use Rattle.summaries.specs.Tabulated.{SomePairBad}
use Rattle.gather.proofs.ReportLemmas.{keeps_answer, no_report}
use Rattle.gather.proofs.report.check_rounds_tried.Goals as goal
use Rattle.gather.proofs.report.check_rounds_tried.Goals.{then-bad, else-bad}

pub returns-in-Err-Memory-clause-none : goal.returns-in-Err-Memory-clause-none
returns-in-Err-Memory-clause-none g c = search rules

pub returns-in_err-ledger-clause-none : goal.returns-in_err-ledger-clause-none
returns-in_err-ledger-clause-none g c =
    let e = err_from_is_err_and c.from_residual-in_err-ledger.result c.from_residual-in_err-ledger.ensures.1 in
    let same = c.in-Ok.ensures.rewritten in
    let drawn = subst (λ (t : Tree). AreDrawnFrom (sequential_of t) c.in_ok-graphs.graphs.graphs.items) same
    c.in_ok-graphs.ensures.graphs in
    let rounds = count_of c.args.rounds in
    let source = checked_tree c.args.program.now in
    rw (e.1, e.2) (no_report source rounds (most_of c.args.limit) c.in_err-ledger.field-0.0
    (subst AllNarrow same c.in-Ok.sequential.narrow) c.in_err-ledger.ensures.cause
    (λ q is. c.in_err-ledger.ensures.limit (sequential_for rounds source) drawn q (λ i. Err (is i))))

pub returns-clause-report : goal.returns-clause-report
returns-clause-report g c =
    let same = c.in-Ok.ensures.rewritten in
    let drawn = subst (λ (t : Tree). AreDrawnFrom (sequential_of t) c.in_ok-graphs.graphs.graphs.items) same
    c.in_ok-graphs.ensures.graphs in
    let rounds = count_of c.args.rounds in
    let source = checked_tree c.args.program.now in
    let p = sequential_for rounds source in
    let told = keeps_answer rounds source (sequential_tree c.in-Ok.sequential) same c.in-Ok.ensures.keeps
    (bad_of c.in_ok-graphs.graphs) c.in_ok-graphs.ensures.bad (SomePairBad c.in_ok-ledger.summaries)
    (c.in_ok-ledger.ensures.bad p drawn) in
    record {
      found = c.in_ok-ledger.ensures.found p drawn;
      closed = c.in_ok-ledger.ensures.closed;
      bad = told;
      answer = elim c.if-bad.branch [
        | then-bad w ↦ (λ is. told.0 (c.bad.ensures.0 w.if-bad.true), λ unsafe. w.answer-is)
        | else-bad w ↦ (
          λ is. let no : ⊥ = (let at = w.answer-is in cc) in absurd no,
          λ unsafe. absurd (true≢false (sym (c.bad.ensures.1 (told.1 unsafe)) ∙ w.if-bad.false)),
        )
      ];
      narrow = subst AllNarrow same c.in-Ok.sequential.narrow;
    }
