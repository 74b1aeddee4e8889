-- There is a word for each row.
use Rattle.std.proofs.Common.{◌<◌, length, bit_and, bit_or, get_or, ap, ◌∙◌, arith}
use Rattle.std.proofs.lemmas.Grind.{get_or_default_zero}
use Rattle.flow_graph.specs.Bits.{bit_of}
use Rattle.flow_graph.specs.Windows.{seen}
use Rattle.flow_graph.proofs.JointLemmas.{row_fits}
use Rattle.flow_graph.proofs.joint.JointTable.next.Goals as goal

pub index-requires : goal.index-requires
index-requires g c =
    let me = c.args.self.now in
    omega (arith, row_fits (bit_of c.args.values) (seen me.inputs.items.items), c.row-row.ensures, me.full)

pub returns : goal.returns
returns g c =
    let me = c.args.self.now in
    let rows = me.rows.items in
    let inside : c.row-row.result < length rows =
    omega (arith, row_fits (bit_of c.args.values) (seen me.inputs.items.items), c.row-row.ensures, me.full) in
    ap (bit_or (bit_and c.args.values me.kept)) (c.index.ensures ∙ get_or_default_zero rows c.row-row.result c.index.result.now inside
    ∙ ap (λ n. get_or rows n 0) c.row-row.ensures)
