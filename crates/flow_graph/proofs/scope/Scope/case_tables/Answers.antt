-- A table is made for each row of the bits.
use Rattle.std.proofs.Common.{◌≡◌, ◌∷◌, [], map, ◌∙◌, length, length-append, sym, ap, subst, arith}
use Rattle.std.specs.Prelude.{IfSome}
use Rattle.std.specs.List.{slice_get}
use Rattle.flow_graph.specs.Bits.{bit_of, coded}
use Rattle.flow_graph.specs.Formulas.{IsTruthTableIn, case_worth}
use Rattle.flow_graph.specs.Windows.{seen}
use Rattle.flow_graph.specs.Views.{over_bits}
use Rattle.flow_graph.proofs.CaseTableLemmas.{AreCases, one_more, cases_say}
use Rattle.flow_graph.proofs.scope.Scope.case_tables.Goals as goal

pub loop-row-preserved : goal.loop-row-preserved
loop-row-preserved g c =
    let bits = c.most_read-bits.result in
    let e = over_bits c.args.self.now c.args.e.now in
    let row = c.loop-row.row in
    let old = c.loop-row.cases.items in
    let table = c.in-Some.table in
    let items = c.in_ok-push-in-Some.ensures.items in
    let here = subst (λ made. IfSome made (λ t. IsTruthTableIn t bits row e)) c.in-Some.is c.in_ok-table.ensures in (
      omega (arith, ap length items, length-append old (table ∷ []), c.loop-row.invariant.0),
      subst (AreCases bits e 0) (sym items)
          (one_more bits e old 0 row table c.loop-row.invariant.1 (omega (arith, c.loop-row.invariant.0)) here),
    )

pub returns : goal.returns
returns g c v =
    let bits = c.most_read-bits.result in
    let read : seen c.new-bits.result.items.items ≡ bits = c.new-bits.ensures in
    ap (λ is. case_worth (slice_get c.loop-row.cases.items (coded (map (bit_of v) is))) v) read
    ∙ cases_say bits (over_bits c.args.self.now c.args.e.now) c.loop-row.cases.items v c.loop-row.invariant.1
    (let eight : length c.loop-row.cases.items ≡ 8 = search in eight) (let three : length bits ≡ 3 = search in three)
