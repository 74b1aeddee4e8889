-- From a board that is opened to what its workers have found.
use Rattle.std.proofs.Common.{◌∙◌, ap, map, subst, sym}
use Rattle.std.proofs.lemmas.Result.{err_from_is_err_and}
use Rattle.switchboard.specs.Sights.{fresh_sights, opened}
use Rattle.summaries.specs.declared.due.Caller.TheVariants.{Starter}
use Rattle.summaries.specs.declared.due.Due.TheVariants.{Entry}
use Rattle.summaries.specs.Fitting.{FitsIn}
use Rattle.summaries.proofs.Steps.{opening_fits}
use Rattle.gather.proofs.Crews.{new_crew, all_left, all_passes}
use Rattle.gather.proofs.ReportLemmas.{split_results, of_board, found, limit_passed, not_wide}
use Rattle.gather.specs.Ends.{HaveLeft}
use Rattle.gather.specs.Findings.{ends_in}
use Rattle.gather.proofs.report.analyse.Given.{Over}
use Rattle.gather.proofs.report.analyse.Goals as goal
use Rattle.gather.proofs.report.analyse.Goals.{After-back-2-1}

pub open_with_budget-requires-clause-fits : goal.open_with_budget-requires-clause-fits
open_with_budget-requires-clause-fits g c =
    subst (λ w. FitsIn c.args.graphs.now 0 (Entry Starter w)) (sym c.new.ensures) (opening_fits c.args.graphs.now c.requires.within.0)

pub work_all-requires-after_bounds : goal.work_all-requires-after_bounds
work_all-requires-after_bounds g c κs within =
    new_crew c.args.graphs.now c.args.limit (g.B-Board.identity c.in_ok-board.board) c.args.budget c.len-boxes.result c.requires.drawn
    c.len-boxes.ensures (map g.B-Board.sight c.in_ok-board.passes.items)
    (c.in_ok-board.ensures.1
    ∙ ap (λ w. fresh_sights (g.B-Board.identity c.in_ok-board.board) c.args.budget
    (opened c.args.graphs.now c.len-boxes.result 0 (Entry Starter w)) 0 c.len-boxes.result) c.new.ensures)

-- what the lanes returned, split into passes and findings
lanes : (g : Over) (c : After-back-2-1 g) → HaveLeft g.S.PathSet.members c.args.graphs.now c.args.limit
    (g.B-Board.identity c.in_ok-board.board) (map g.B-Board.sight c.in_ok-back.back.items) c.in_ok-back.findings.items
lanes g c = split_results g.S.PathSet.members c.args.graphs.now c.args.limit (g.B-Board.identity c.in_ok-board.board)
    g.B-Board.sight c.in_ok-ended.ended.items c.in_ok-back.back.items c.in_ok-back.findings.items c.in_ok-back.ensures.0
    c.in_ok-back.ensures.1 (all_left g.S.PathSet.members g.B-Board.sight c.args.graphs.now c.args.limit
    (g.B-Board.identity c.in_ok-board.board) c.in_ok-ended.ended.items c.in_ok-ended.ensures)

pub into_ledger-ledger-requires : goal.into_ledger-ledger-requires
into_ledger-ledger-requires g c =
    all_passes g.S.PathSet.members c.args.graphs.now c.args.limit (g.B-Board.identity c.in_ok-board.board)
    (map g.B-Board.sight c.in_ok-back.back.items) (lanes g c).outcomes (lanes g c).ended
    (g.B-Board.mailboxes c.in_ok-board.board) (c.in_ok-board.ensures.0 ∙ c.len-boxes.ensures)

pub returns-in_err-summaries-clause-limit : goal.returns-in_err-summaries-clause-limit
returns-in_err-summaries-clause-limit g c = λ p drawn q is.
    let a = (goal.at.returns-in_err-summaries-clause-limit g c).After-back-2-1 in
    let e = err_from_is_err_and c.from_residual-in_err-summaries.result c.from_residual-in_err-summaries.ensures.1 in
    let of =
    of_board _ _ _ _ _ _ (lanes g a) _ (c.in_ok-board.ensures.0 ∙ c.len-boxes.ensures) _ _ c.into_ledger-ledger.ensures.settles in
    limit_passed g.S.PathSet.members c.args.graphs.now c.args.limit (g.B-Board.identity c.in_ok-board.board)
    (map g.B-Board.sight c.in_ok-back.back.items) c.in_ok-back.findings.items (lanes g a) c.in_err-summaries.field-0.0
    q (c.in_err-summaries.ensures c.into_ledger-ledger.result.histories.items c.into_ledger-ledger.result.closed of).1
    (let at = e.1 in let same = e.2 in cc) p drawn

pub returns-in_err-summaries-clause-cause : goal.returns-in_err-summaries-clause-cause
returns-in_err-summaries-clause-cause g c =
    let a = (goal.at.returns-in_err-summaries-clause-cause g c).After-back-2-1 in
    let e = err_from_is_err_and c.from_residual-in_err-summaries.result c.from_residual-in_err-summaries.ensures.1 in
    let of =
    of_board _ _ _ _ _ _ (lanes g a) _ (c.in_ok-board.ensures.0 ∙ c.len-boxes.ensures) _ _ c.into_ledger-ledger.ensures.settles in
    rw (e.1, e.2) (not_wide (ends_in c.in_ok-back.findings.items) c.in_err-summaries.field-0.0
    (c.in_err-summaries.ensures c.into_ledger-ledger.result.histories.items c.into_ledger-ledger.result.closed of).1)

pub returns-clause-found : goal.returns-clause-found
returns-clause-found g c = λ p drawn.
    let a = (goal.at.returns-clause-found g c).After-back-2-1 in
    let histories = c.into_ledger-ledger.result.histories.items in
    let closed = c.into_ledger-ledger.result.closed in
    let count = c.in_ok-board.ensures.0 ∙ c.len-boxes.ensures in
    let left = c.into_ledger-ledger.ensures.settles in
    let id = g.B-Board.identity c.in_ok-board.board in
    let passes = map g.B-Board.sight c.in_ok-back.back.items in
    let boxes = g.B-Board.mailboxes c.in_ok-board.board in
    let of = of_board g.S.PathSet.members c.args.graphs.now c.args.limit id passes c.in_ok-back.findings.items (lanes g a)
    boxes count histories closed left in
    found g.S.PathSet.members c.args.graphs.now c.args.limit id passes c.in_ok-back.findings.items (lanes g a) boxes count
    histories closed left c.in_ok-summaries.summaries (c.in_ok-summaries.ensures histories closed of).0 p drawn

pub returns-clause-closed : goal.returns-clause-closed
returns-clause-closed g c =
    let a = (goal.at.returns-clause-closed g c).After-back-2-1 in
    let of =
    of_board _ _ _ _ _ _ (lanes g a) _ (c.in_ok-board.ensures.0 ∙ c.len-boxes.ensures) _ _ c.into_ledger-ledger.ensures.settles in
    (c.in_ok-summaries.ensures c.into_ledger-ledger.result.histories.items c.into_ledger-ledger.result.closed of).0.shut

pub returns-clause-bad : goal.returns-clause-bad
returns-clause-bad g c = λ p drawn.
    let a = (goal.at.returns-clause-bad g c).After-back-2-1 in
    let of =
    of_board _ _ _ _ _ _ (lanes g a) _ (c.in_ok-board.ensures.0 ∙ c.len-boxes.ensures) _ _ c.into_ledger-ledger.ensures.settles in
    (c.in_ok-summaries.ensures c.into_ledger-ledger.result.histories.items c.into_ledger-ledger.result.closed of).0.bad p drawn
