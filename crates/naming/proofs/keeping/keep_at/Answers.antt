use Rattle.std.proofs.Common.{ap, Some, subst, sym, ◌∙◌}
use Rattle.std.specs.Prelude.{IfSome}
use Rattle.stack_sets.specs.Nodes.{nodes_in}
use Rattle.naming.specs.Moves.{HasNumber, HaveNumbers, IsMovedNode}
use Rattle.naming.proofs.KeepLemmas.{keep_one}
use Rattle.naming.proofs.MoveLemmas.{is_none}
use Rattle.naming.proofs.keeping.keep_at.Goals as goal

pub returns-clause-kept : goal.returns-clause-kept
returns-clause-kept g c =
    let none = is_none c.name_at.result c.if-is_some.ensures in
    let moved = subst (λ o. IfSome o (IsMovedNode c.args.base (HasNumber c.args.names.now) c.node_in.result.now)) c.in-Some.is
    c.in_ok-moved.ensures in
    subst (λ l. HaveNumbers c.args.base c.args.nodes.now l (nodes_in c.keep.new.self)) (sym c.set_name.ensures)
    (keep_one c.args.base c.args.nodes.now (nodes_in c.args.sets.now) (nodes_in c.keep.new.self) c.args.names.now c.args.index
    c.in_ok-number.number c.node_in.result.now c.in-Some.moved c.node_in.ensures (c.name_at.ensures ∙ ap Some none) moved
    c.in_ok-number.ensures.number c.keep.ensures.keeps c.in_ok-number.ensures.adds c.requires.kept)
