use Rattle.std.proofs.Common.{◌≡◌, false, [], ◌∷◌, ◌++◌, refl, sym, ◌∙◌, ap, subst, arith}
use Rattle.flow_graph.specs.Drawn.{graphs_of}
use Rattle.turns.specs.Numbered.{placed}
use Rattle.turns.specs.declared.numbered_frame.NumberedFrame.{NumberedFrame}
use Rattle.stack_sets.specs.Nodes.{nodes_in, head_over}
use Rattle.stack_sets.specs.declared.node.Node.{Node}
use Rattle.exploration.specs.Starts.{IsAlone, first_stack}
use Rattle.exploration.proofs.StartLemmas.{begun_may, alone_head, first_there, first_absent}
use Rattle.exploration.proofs.start.first_node.Goals as goal

pub returns-then-procedure-len-clause-node : goal.returns-then-procedure-len-clause-node
returns-then-procedure-len-clause-node g c =
    let none : first_stack (graphs_of c.args.graphs.now) c.args.procedure ≡ [] =
    first_absent (graphs_of c.args.graphs.now) c.args.procedure (omega (arith, c.if-procedure-len.true, c.len.ensures)) in
    subst (IsAlone (nodes_in c.args.sets.now) 0) (sym none) c.requires.bottom

pub returns-clause-begun : goal.returns-clause-begun
returns-clause-begun g c =
    let f : NumberedFrame = placed c.args.procedure c.start.result 0 in
    let node : Node g.row.A.Denot = record { bare = false; heads = c.push.new.self } in
    let heads : c.push.new.self.items ≡ head_over f 0 ∷ [] = c.in_ok-push.ensures.items
    ∙ ap (λ z. z ++ head_over f 0 ∷ []) c.new-heads.ensures.items in
    begun_may (nodes_in c.args.sets.now) (nodes_in c.keep.new.self) node f c.requires heads c.in_ok-keep.ensures.adds

pub returns-clause-node : goal.returns-clause-node
returns-clause-node g c =
    let f : NumberedFrame = placed c.args.procedure c.start.result 0 in
    let node : Node g.row.A.Denot = record { bare = false; heads = c.push.new.self } in
    let heads : c.push.new.self.items ≡ head_over f 0 ∷ [] = c.in_ok-push.ensures.items
    ∙ ap (λ z. z ++ head_over f 0 ∷ []) c.new-heads.ensures.items in
    let begun = begun_may (nodes_in c.args.sets.now) (nodes_in c.keep.new.self) node f c.requires heads c.in_ok-keep.ensures.adds in
    let there =
    first_there (graphs_of c.args.graphs.now) c.args.procedure c.start.result c.graph.result.now c.graph.ensures c.start.ensures in
    subst (IsAlone (nodes_in c.keep.new.self) c.in_ok-keep.field-0) (sym there)
    (alone_head (nodes_in c.keep.new.self) node c.in_ok-keep.field-0 f begun refl heads c.in_ok-keep.ensures.number)
