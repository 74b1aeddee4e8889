-- Each bit is a place.
use Rattle.flow_graph.proofs.Rows.{bit_inside}
use Rattle.flow_graph.proofs.windows.Windows.new.Goals as goal

pub add-requires-clause-place : goal.add-requires-clause-place
add-requires-clause-place c = bit_inside c.args.bits.now c.loop-bit.bit-index c.requires.places c.loop-bit-test.true
