use Rattle.std.proofs.Common.{subst, sym}
use Rattle.stack_sets.specs.Nodes.{nodes_in}
use Rattle.stack_sets.specs.Within.{AreWithin, found_in}
use Rattle.exploration.proofs.CoverLemmas.{covered_there}
use Rattle.exploration.proofs.tuple.meet_after.Goals as goal

pub returns-clause-known : goal.returns-clause-known
returns-clause-known g c =
    subst (λ k. AreWithin (nodes_in c.args.sets.now) (found_in k)) (sym c.note.ensures.known) c.in_ok-is_covered.ensures.known

pub returns-clause-covered : goal.returns-clause-covered
returns-clause-covered g c =
    covered_there (nodes_in c.args.sets.now) c.meet.new.tuples.keys c.args.tuple c.in_ok-meet.ensures.added
