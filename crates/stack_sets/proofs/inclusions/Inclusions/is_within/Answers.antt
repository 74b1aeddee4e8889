use Rattle.std.proofs.Common.{◌++◌, refl, subst, sym}
use Rattle.stack_sets.specs.Nodes.{nodes_in}
use Rattle.stack_sets.specs.Within.{AreWithin}
use Rattle.stack_sets.proofs.inclusions.Inclusions.is_within.Goals as goal

pub returns-then-has-clause-within : goal.returns-then-has-clause-within
returns-then-has-clause-within g c t = (c.requires.known c.args.pair (c.if-has.ensures refl)).1

pub returns-clause-known : goal.returns-clause-known
returns-clause-known g c =
    subst (λ f. AreWithin (nodes_in c.args.sets.now ++ c.args.more.now) f.keys) (sym c.in_ok-give_up.ensures)
    c.in_ok-search.ensures.known
