-- If both points are one, nothing is tested.
use Rattle.std.proofs.lemmas.Result.{IfOk-weaker}
use Rattle.language.specs.Resolve.{resolve_side}
use Rattle.trees.specs.Trees.{rhs_of}
use Rattle.flow_graph.specs.Nodes.{goes, tests}
use Rattle.flow_graph.specs.Lowering.{lowering_scope, DoesIn}
use Rattle.flow_graph.proofs.FlowLemmas.{does_same}
use Rattle.flow_graph.proofs.lowering.Lowering.test.Goals as goal

pub returns-then-yes-no : goal.returns-then-yes-no
returns-then-yes-no g c =
    let r = resolve_side (lowering_scope c.args.self.now) (rhs_of c.args.r.now) in
    IfOk-weaker c.jump_to.result (λ f. DoesIn c.args.self.now f (goes c.args.yes))
    (λ f. DoesIn c.args.self.now f (tests r c.args.yes c.args.no))
    (λ f d. does_same f r c.args.yes c.args.no _ c.if-yes-no.true d) c.jump_to.ensures
