use Rattle.std.proofs.Common.{◌-◌, ◌≡◌, ◌≤◌, ◌+◌, length}
use Rattle.stack_sets.specs.Nodes.{nodes_in}
use Rattle.exploration.specs.Searched.{KnowsWithin, threads_by}
use Rattle.exploration.specs.Turns.{turns_in}
use Rattle.exploration.proofs.PassLemmas.{IsPassing}
use Rattle.exploration.proofs.searching.Search.expand_all.Given as goal

abbrev pub invariant-loop-self : goal.invariant-loop-self
invariant-loop-self g l = record {
  passing : IsPassing (threads_by l.source l.procedures) (nodes_in l.self.sets) (turns_in l.self.turns) l.initial.self.tuples.keys
      l.self.tuples.keys l.self.expanded l.moment l.next;
  known : KnowsWithin l.self;
  all : l.end ≡ length l.initial.self.tuples.keys;
  work : l.self.left + length l.self.tuples.keys ≤ l.initial.self.left + length l.initial.self.tuples.keys;
}

abbrev pub decreases-loop-self : goal.decreases-loop-self
decreases-loop-self g l = l.end - l.self.expanded
