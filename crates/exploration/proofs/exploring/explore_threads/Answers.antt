use Rattle.std.proofs.Common.{◌≡◌, ℕ, length, refl, sym, arith}
use Rattle.std.proofs.lemmas.Map.Views.{exact_unsigned_eq}
use Rattle.turns.specs.Between.{Threads}
use Rattle.turns.specs.declared.numbered_frame.NumberedFrame.{NumberedFrame}
use Rattle.exploration.specs.Searched.{threads_by}
use Rattle.exploration.proofs.ComeLemmas.{none_holds}
use Rattle.exploration.proofs.ReportLemmas.{settled_report, ended_report}
use Rattle.exploration.proofs.SearchLemmas.{threads_count}
use Rattle.exploration.proofs.exploring.explore_threads.Goals as goal

pub returns-then-is_empty-clause-report : goal.returns-then-is_empty-clause-report
returns-then-is_empty-clause-report g c =
    let p : Threads ℕ NumberedFrame = threads_by c.args.source.now c.args.procedures.now in
    let count : length p.stacks ≡ length c.args.procedures.now = threads_count c.args.source.now c.args.procedures.now in
    let none : length c.args.procedures.now ≡ 0 = exact_unsigned_eq (length c.args.procedures.now) 0 (sym c.if-is_empty.ensures) in
    settled_report p c.args.rounds _ refl refl (none_holds p (omega (arith, count, none)))

pub returns-in-Ok-run-clause-report : goal.returns-in-Ok-run-clause-report
returns-in-Ok-run-clause-report g c =
    let p : Threads ℕ NumberedFrame = threads_by c.args.source.now c.args.procedures.now in
    ended_report p c.args.rounds c.in-Ok-run.end c.report.result c.in-Ok-run.ensures.end c.report.ensures.end
