use Rattle.std.proofs.Common.{◌++◌, subst}
use Rattle.stack_sets.specs.Nodes.{nodes_in}
use Rattle.naming.specs.Pruned.{AreEnough}
use Rattle.naming.proofs.PruneLemmas.{enough_twice}
use Rattle.naming.proofs.pruning.enough_of.Goals as goal

pub leave_out-requires : goal.leave_out-requires
leave_out-requires g c = record { known = c.requires.known }

pub leave_out-requires-2 : goal.leave_out-requires-2
leave_out-requires-2 g c = record { known = c.in_ok-some.ensures.known }

pub returns-clause-enough : goal.returns-clause-enough
returns-clause-enough g c =
    let all = nodes_in c.args.sets.now ++ c.args.nodes.now in
    let some = c.in_ok-some.some.items in
    let kept = c.in_ok-kept.kept.items in
    enough_twice all c.args.heads.now c.in_ok-sorted.sorted.items some c.turn_round.new.heads.items kept c.turn_round-2.new.heads.items
    c.in_ok-sorted.ensures (subst (λ l. AreEnough all l some) c.as_slice.ensures.value c.in_ok-some.ensures.enough) c.turn_round.ensures
    (subst (λ l. AreEnough all l kept) c.as_slice-2.ensures.value c.in_ok-kept.ensures.enough) c.turn_round-2.ensures
