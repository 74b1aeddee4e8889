use Rattle.std.proofs.Common.{sym, arith}
use Rattle.path_sets.proofs.QuadLemmas.{by_node, sees_nothing}
use Rattle.path_sets.proofs.WalkLemmas.{node_of}
use Rattle.path_sets.proofs.diagrams.quads.Quads.node.Goals as goal

pub returns-then-number-gt-FULL-clause-same : goal.returns-then-number-gt-FULL-clause-same
returns-then-number-gt-FULL-clause-same g c =
    let ns = c.args.self.now.kept.keys in
    let n = c.args.number in
    let x = c.index.result.now in
    λ v. sym (by_node ns n v x (node_of ns n x c.if-number-gt-FULL.true c.index.ensures))

pub returns-else-number-gt-FULL-clause-same : goal.returns-else-number-gt-FULL-clause-same
returns-else-number-gt-FULL-clause-same g c v =
    sees_nothing c.args.self.now.kept.keys c.args.number v (omega (arith, c.if-number-gt-FULL.false))
