use Rattle.std.proofs.Common.{◌≤◌, ◌+◌, ◌^◌, length, ◌-◌}
use Rattle.exploration.specs.Searched.{IsAt, KnowsWithin, threads_by}
use Rattle.exploration.proofs.searching.Search.run.Given as goal

abbrev pub invariant-loop-self : goal.invariant-loop-self
invariant-loop-self g l = record {
  come : IsAt (threads_by l.source l.procedures) l.self l.moment;
  known : KnowsWithin l.self;
  room : l.moment.round + (l.self.left + length l.self.tuples.keys) ≤ 2 ^ 32 + l.self.expanded;
  work : l.self.left + length l.self.tuples.keys ≤ l.initial.self.left + length l.initial.self.tuples.keys;
}

abbrev pub decreases-loop-self : goal.decreases-loop-self
decreases-loop-self g l = l.self.left + length l.self.tuples.keys - l.self.expanded
