use Rattle.std.proofs.Common.{subst, sym}
use Rattle.stack_sets.specs.Nodes.{nodes_in}
use Rattle.naming.specs.Moves.{IsNumber, MayAddMoved}
use Rattle.naming.proofs.MoveLemmas.{is_none}
use Rattle.naming.proofs.keeping.add_at.Goals as goal

pub returns-in_ok-add-clause-adds : goal.returns-in_ok-add-clause-adds
returns-in_ok-add-clause-adds g c =
    subst (λ o. MayAddMoved c.args.base (IsNumber c.args.all.now) c.args.node.now o (nodes_in c.args.sets.now) (nodes_in c.add.new.self))
    (sym (is_none c.args.name (sym c.if-is_none.ensures)))
    (c.in_ok-moved.moved, c.in_ok-moved.ensures, c.in_ok-add.ensures.ok)
