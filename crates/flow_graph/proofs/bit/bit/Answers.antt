-- The bit is read from its half.
use Rattle.std.proofs.Common.{◌%◌, ◌∙◌, refl}
use Rattle.std.proofs.lemmas.Nat.Bits.{shr_and_one}
use Rattle.flow_graph.proofs.bit.bit.Goals as goal

pub returns : goal.returns
returns c = shr_and_one c.half.result (c.args.at % 64) ∙ c.half.ensures c.args.at c.requires refl
