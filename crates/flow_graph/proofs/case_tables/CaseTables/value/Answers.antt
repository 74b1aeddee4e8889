-- There is a table for each row of the bits.
use Rattle.std.proofs.Common.{◌∙◌, ap, sym, refl, arith, length}
use Rattle.std.specs.List.{slice_get}
use Rattle.std.proofs.lemmas.Option.{slice_get_read}
use Rattle.flow_graph.specs.Bits.{bit_of}
use Rattle.flow_graph.specs.Formulas.{case_worth}
use Rattle.flow_graph.specs.Windows.{seen}
use Rattle.flow_graph.proofs.CaseTableLemmas.{three_have_eight}
use Rattle.flow_graph.proofs.case_tables.CaseTables.value.Goals as goal

pub index-requires : goal.index-requires
index-requires g c =
    let me = c.args.self.now in
    let small = three_have_eight (bit_of c.args.values) (seen me.bits.items.items) me.three in
    omega (arith, small, c.row-row.ensures, me.all)

pub returns : goal.returns
returns g c =
    let me = c.args.self.now in
    let cases = me.cases.items in
    let small = three_have_eight (bit_of c.args.values) (seen me.bits.items.items) me.three in
    let found = slice_get_read cases (length cases) c.row-row.result c.index.result.now refl
    (omega (arith, small, c.row-row.ensures, me.all)) c.index.ensures in
    c.value.ensures ∙ ap (λ t. case_worth t c.args.values) (sym found)
    ∙ ap (λ n. case_worth (slice_get cases n) c.args.values) c.row-row.ensures
