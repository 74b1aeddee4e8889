use Rattle.std.proofs.Common.{subst}
use Rattle.stack_sets.specs.Nodes.{nodes_in}
use Rattle.naming.specs.Moves.{AreAllKept}
use Rattle.naming.proofs.CircleLemmas.{taken_over}
use Rattle.naming.proofs.circles.take_over.Goals as goal

pub returns-then-are : goal.returns-then-are
returns-then-are g c =
    taken_over c.args.base c.args.nodes.now (nodes_in c.args.sets.now) c.args.names.now.items c.args.all.items c.requires.count
    c.requires.keeps c.requires.kept
    (subst (λ l. AreAllKept c.args.base l c.args.nodes.now (nodes_in c.args.sets.now)) c.as_slice.ensures.value
    (c.in_ok-are.ensures c.if-are.true))
