use Rattle.flow_graph.proofs.flow.Flow.next.Goals as goal

pub returns : goal.returns
returns g c = c.choose.ensures.next
