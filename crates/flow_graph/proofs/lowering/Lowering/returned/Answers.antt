-- The value is written to the bit of the result.
use Rattle.std.proofs.Common.{refl, subst}
use Rattle.trees.specs.Trees.{expr_of}
use Rattle.flow_graph.specs.Assigning.{WritesOne}
use Rattle.flow_graph.specs.Lowering.{lowering_scope, lowered_routine}
use Rattle.flow_graph.proofs.FlowLemmas.{does_returned}
use Rattle.flow_graph.proofs.lowering.Lowering.returned.Goals as goal

pub returns : goal.returns
returns g c =
    let me = c.args.self.now in
    let s = lowering_scope me in
    let made = c.in_ok-assignment_of_value in
    let e = expr_of c.args.e.now in
    does_returned made.field-0 s (lowered_routine me) e refl
    (subst (λ n. WritesOne made.field-0 n s e) c.requires.2 made.ensures)
