-- each head so far has its match
use Rattle.std.proofs.Common.{take}
use Rattle.language.specs.Lists.{Member}
use Rattle.stack_sets.specs.Within.{HasMatch}
use Rattle.stack_sets.specs.declared.node.Head.{Head}
use Rattle.stack_sets.proofs.inclusions.has_all.Given as goal

abbrev pub invariant-loop-head : goal.invariant-loop-head
invariant-loop-head g l =
    (h : Head) → Member h (take l.head-index l.one.heads.items) → HasMatch l.pairs.keys l.known.keys h l.other.heads.items
