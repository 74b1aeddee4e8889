-- The rounds and the limit are those of the order.
use Rattle.refusals.proofs.explanation.edge_limit.Goals as goal

pub returns-in-Check : goal.returns-in-Check
returns-in-Check g c =
    rw (c.in-Check.is, ← c.count.ensures.count, ← c.edges.ensures.edges) c.over_limit.ensures
