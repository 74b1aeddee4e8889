use Rattle.std.proofs.Common.{rules}
use Rattle.flow_graph.proofs.flow.Flow.choose.Goals as goal

pub returns-then-value-2-clause-more : goal.returns-then-value-2-clause-more
returns-then-value-2-clause-more g c = search rules
