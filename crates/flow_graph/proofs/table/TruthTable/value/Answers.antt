-- The output is the bit of the row in its word.
use Rattle.std.proofs.Common.{◌%◌, ◌∙◌, ◌==◌, ap}
use Rattle.std.proofs.lemmas.Nat.Bits.{shr_and_one}
use Rattle.flow_graph.specs.Bits.{bit_of}
use Rattle.flow_graph.specs.Formulas.{words_of}
use Rattle.flow_graph.specs.Tables.{output, word_rows}
use Rattle.flow_graph.proofs.table.TruthTable.value.Goals as goal

pub returns : goal.returns
returns g c =
    let words = words_of c.args.self.now.outputs in
    let row = c.row-row.result in
    ap (λ n. n == 1) (shr_and_one c.word.result (row % word_rows)) ∙ ap (λ w. bit_of w (row % word_rows)) c.word.ensures
    ∙ ap (output words) c.row-row.ensures
