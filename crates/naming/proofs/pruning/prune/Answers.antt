use Rattle.std.proofs.Common.{◌++◌, refl, subst}
use Rattle.stack_sets.specs.Nodes.{nodes_in}
use Rattle.naming.specs.Pruned.{AreEnough}
use Rattle.naming.proofs.pruning.prune.Goals as goal

pub enough_of-requires : goal.enough_of-requires
enough_of-requires g c = record { known = c.requires.known }

pub returns-clause-pruned : goal.returns-clause-pruned
returns-clause-pruned g c = (
  refl,
  subst (λ l. AreEnough (nodes_in c.args.sets.now ++ c.args.nodes.now) l c.in_ok-heads.heads.items) c.as_slice.ensures.value
      c.in_ok-heads.ensures.enough,
)
