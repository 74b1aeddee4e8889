use Rattle.std.proofs.Common.{◌++◌, inl, inr, refl, subst}
use Rattle.stack_sets.specs.Nodes.{nodes_in}
use Rattle.naming.specs.Pruned.{IsCovered}
use Rattle.naming.proofs.pruning.keep_head.Goals as goal

pub returns-then-branch-clause-kept : goal.returns-then-branch-clause-kept
returns-then-branch-clause-kept g c =
    inr (
      refl,
      subst (IsCovered (nodes_in c.args.sets.now ++ c.args.nodes.now) c.args.head) c.as_slice.ensures.value
          (c.in_ok-is_covered.ensures.covered c.if-branch.true),
    )

pub returns-clause-kept : goal.returns-clause-kept
returns-clause-kept g c = inl c.in_ok-push.ensures.items
