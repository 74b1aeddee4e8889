use Rattle.std.proofs.Common.{◌-◌, ◌+◌, ◌*◌}
use Rattle.path_sets.specs.Quads.{levels}
use Rattle.path_sets.proofs.counting.one_bit.+at_point.Given as goal

abbrev pub decreases-at_point : goal.decreases-at_point
decreases-at_point g l = 2 * (levels - l.subproblem.level) + 1

abbrev pub decreases-from_children : goal.decreases-from_children
decreases-from_children g l = 2 * (levels - l.subproblem.level)
