use Rattle.std.proofs.Common.{◌≡◌, subst}
use Rattle.stack_sets.specs.Nodes.{nodes_in}
use Rattle.exploration.specs.Met.{Adds}
use Rattle.exploration.specs.Turns.{turns_in}
use Rattle.exploration.proofs.StartLemmas.{begun_first, has_begun}
use Rattle.exploration.proofs.searching.Search.new.Goals as goal

pub first_tuple-requires-clause-begun : goal.first_tuple-requires-clause-begun
first_tuple-requires-clause-begun g c = begun_first (nodes_in c.in_ok-sets.sets) c.in_ok-sets.ensures.0 c.in_ok-sets.ensures.1

pub returns-clause-begun : goal.returns-clause-begun
returns-clause-begun g c =
    has_begun c.args.source.now c.args.procedures.now (nodes_in c.first_tuple.new.sets) c.in_ok-first.first c.in_ok-first.ensures.tuple
    c.in_ok-first.ensures.begun c.requires.some (turns_in c.new-2.result) c.new-2.ensures c.meet.new.tuples.keys
    (subst (λ z. Adds (λ t. t ≡ c.in_ok-first.first) z c.meet.new.tuples.keys) c.new-tuples.ensures.empty c.meet.ensures.adds)
    c.in_ok-meet.ensures.added
