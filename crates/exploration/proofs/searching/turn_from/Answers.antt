use Rattle.std.proofs.Common.{subst}
use Rattle.stack_sets.specs.Comes.{ComesTo}
use Rattle.stack_sets.specs.Turns.{machine_by}
use Rattle.stack_sets.specs.Nodes.{nodes_in}
use Rattle.exploration.specs.Turns.{turns_in}
use Rattle.exploration.proofs.TurnLemmas.{turns_later, turns_made}
use Rattle.exploration.proofs.searching.turn_from.Goals as goal

pub returns-in-Fails-clause-kept : goal.returns-in-Fails-clause-kept
returns-in-Fails-clause-kept g c =
    turns_later (machine_by c.args.source.now.graphs c.args.source.now.asserts) (nodes_in c.args.sets.now) (nodes_in c.take_turn.new.sets)
    c.take_turn.ensures.keeps c.requires.whole (turns_in c.args.turns.now) c.requires.kept

pub returns-in_ok-keep-in-Ends-clause-kept : goal.returns-in_ok-keep-in-Ends-clause-kept
returns-in_ok-keep-in-Ends-clause-kept g c =
    turns_made (machine_by c.args.source.now.graphs c.args.source.now.asserts) (nodes_in c.args.sets.now) (nodes_in c.take_turn.new.sets)
    c.take_turn.ensures.keeps c.requires.whole c.in_ok-take_turn.ensures.whole (turns_in c.args.turns.now) (turns_in c.keep.new.self)
    c.args.start c.in-Ends.endings.items c.requires.kept c.requires.within
    (subst (λ z. ComesTo (machine_by c.args.source.now.graphs c.args.source.now.asserts) (nodes_in c.args.sets.now)
    (nodes_in c.take_turn.new.sets) c.args.start.globals c.args.start.node z) c.in-Ends.is c.in_ok-take_turn.ensures.comes)
    c.in_ok-keep-in-Ends.ensures.kept
