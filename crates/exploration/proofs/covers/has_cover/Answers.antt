use Rattle.std.proofs.Common.{subst}
use Rattle.language.specs.Lists.{Member}
use Rattle.stack_sets.specs.Nodes.{nodes_in}
use Rattle.exploration.proofs.CoverLemmas.{covered_with}
use Rattle.exploration.proofs.covers.has_cover.Goals as goal

pub returns-then-branch-clause-covered : goal.returns-then-branch-clause-covered
returns-then-branch-clause-covered g c t =
    covered_with (nodes_in c.args.sets.now) c.args.tuples.now.keys c.args.tuple.now c.args.at c.args.node
    (subst (λ z. Member z c.args.tuples.now.keys) c.with-other.ensures (c.is_met.ensures t))
    (c.in_ok-is_kept_within.ensures.within c.if-branch.true)
