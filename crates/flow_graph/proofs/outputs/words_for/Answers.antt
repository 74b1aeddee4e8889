-- At most six inputs have at most 64 rows.
use Rattle.std.proofs.Common.{◌≤◌, arith}
use Rattle.std.proofs.Math.Pow.{pow_mono}
use Rattle.flow_graph.proofs.outputs.words_for.Goals as goal

pub returns-in_default-clause-enough : goal.returns-in_default-clause-enough
returns-in_default-clause-enough c =
    pow_mono {i = c.args.inputs} {j = 6} (let few : c.args.inputs ≤ 6 = omega (arith, c.requires, c.in_default) in few)
