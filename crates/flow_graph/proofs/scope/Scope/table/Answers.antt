-- The words that are kept are those of the rows that the inputs have.
use Rattle.std.proofs.Common.{◌≡◌, ◌^◌, ◌*◌, ◌≤◌, ◌∙◌, map, length, ap}
use Rattle.flow_graph.specs.Bits.{bit_of, coded}
use Rattle.flow_graph.specs.Tables.{word_rows, output}
use Rattle.flow_graph.specs.Formulas.{words_of}
use Rattle.flow_graph.specs.Views.{over_bits}
use Rattle.flow_graph.specs.Windows.{seen}
use Rattle.flow_graph.proofs.Rows.{looked_up}
use Rattle.flow_graph.proofs.scope.Scope.table.Goals as goal

pub returns : goal.returns
returns g c v have =
    let known = c.args.known.now in
    let xs = c.outputs-2.new.inputs.items in
    let enough : 2 ^ length xs ≤ word_rows * c.words_for.result =
    rw (← c.len.ensures.value) c.words_for.ensures.enough in
    let seen_are : seen c.new-inputs.result.items.items ≡ xs = c.new-inputs.ensures ∙ c.as_slice-2.ensures.value in
    ap (λ is. output (words_of c.in_ok-outputs.outputs) (coded (map (bit_of v) is))) seen_are
    ∙ ap (λ ws. output ws (coded (map (bit_of v) xs))) c.in_ok-outputs.ensures
    ∙ looked_up (bit_of v) known.bits.now known.row xs c.in-Some.all c.words_for.result
    (over_bits c.args.self.now c.args.e.now) c.outputs-2.ensures.few enough
    c.in-Some.ensures.outputs have
