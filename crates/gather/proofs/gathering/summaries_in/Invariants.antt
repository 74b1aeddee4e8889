-- What was read off the tables of the lanes so far.
use Rattle.std.proofs.Common.{◌≡◌, ◌++◌}
use Rattle.std.specs.Vec.Iter.{into_iter_items}
use Rattle.gather.specs.Gathered.{AreRead}
use Rattle.gather.proofs.gathering.summaries_in.Given as goal

abbrev pub invariant-loop-finding : goal.invariant-loop-finding
invariant-loop-finding g l =
    (l.yielded ++ into_iter_items l.finding-iterator ≡ l.fn.findings.items) × AreRead l.yielded l.summaries.items
