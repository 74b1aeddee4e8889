use Rattle.path_sets.proofs.OrderLemmas.{has_also, is_new, once}
use Rattle.path_sets.proofs.ordered_edges.OrderedEdgesPathSet.insert.Goals as goal

pub invariant_of-self : goal.invariant_of-self
invariant_of-self g c = record { once = once c.insert.new.self.keys c.insert.ensures.ordered }

pub returns-clause-members : goal.returns-clause-members
returns-clause-members g c = has_also _ c.args.self.now.edges.keys c.insert.new.self.keys c.in_ok-added.ensures.updates.0

pub returns-clause-new : goal.returns-clause-new
returns-clause-new g c = is_new _ c.args.self.now.edges.keys c.in_ok-added.added c.in_ok-added.ensures.added
