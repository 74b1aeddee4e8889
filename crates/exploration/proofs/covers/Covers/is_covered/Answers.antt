use Rattle.std.proofs.Common.{refl}
use Rattle.stack_sets.specs.Nodes.{nodes_in}
use Rattle.exploration.proofs.CoverLemmas.{covered_there}
use Rattle.exploration.proofs.covers.Covers.is_covered.Goals as goal

pub returns-then-is_met-clause-covered : goal.returns-then-is_met-clause-covered
returns-then-is_met-clause-covered g c t =
    covered_there (nodes_in c.args.sets.now) c.args.tuples.now.keys c.args.tuple.now (c.if-is_met.ensures refl)
