use Rattle.std.proofs.Common.{◌∙◌, ◌%◌, ◌^◌, ap, bit_and}
use Rattle.std.proofs.lemmas.Nat.{and_mask}
use Rattle.flow_graph.proofs.low_bits.LowBits.of.Goals as goal

pub returns : goal.returns
returns c =
    ap (bit_and c.args.values) c.self.invariant ∙ and_mask c.args.values c.self.inside.count
    ∙ ap (λ n. c.args.values % 2 ^ n) c.self.view_is
