use Rattle.std.proofs.Common.{◌≡◌, ◌≤◌, ◌+◌, ◌<◌, length, take}
use Rattle.language.specs.Lists.{Member}
use Rattle.stack_sets.specs.Nodes.{nodes_in}
use Rattle.stack_sets.specs.Within.{AreWithin, found_in}
use Rattle.exploration.specs.Met.{Adds, IsCovered, after_turn}
use Rattle.exploration.specs.Met.{Ending as AnEnding}
use Rattle.exploration.proofs.tuple.meet_all.Given as goal

abbrev pub invariant-loop-ending : goal.invariant-loop-ending
invariant-loop-ending g l = record {
  within : l.tuple.thread < 8;
  known : AreWithin (nodes_in l.sets) (found_in l.covers.known);
  covered : (e : AnEnding) → Member e (take l.ending-index l.endings)
      → IsCovered (nodes_in l.sets) l.tuples.keys (after_turn l.tuple l.next.thread e);
  adds : Adds (λ t. (e : AnEnding) × Member e l.endings × (t ≡ after_turn l.tuple l.next.thread e)) l.initial.tuples.keys l.tuples.keys;
  work : l.left + length l.tuples.keys ≤ l.initial.left + length l.initial.tuples.keys;
}
