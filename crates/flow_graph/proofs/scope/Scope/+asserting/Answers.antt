-- What a statement asserts comes before what those inside of it do, and this before what the others do.
use Rattle.std.proofs.Common.{ap, arith}
use Rattle.std.proofs.lemmas.Result.{IfOk-weaker}
use Rattle.language.specs.Sequential.{statements}
use Rattle.trees.proofs.Held.{smaller}
use Rattle.flow_graph.specs.Views.{scope_seen}
use Rattle.flow_graph.proofs.AssertLemmas.{put_next, put_end, put_own}
use Rattle.flow_graph.proofs.scope.Scope.+asserting.Goals as goal

pub put_asserts-put_own_asserts-requires : goal.put_asserts-put_own_asserts-requires
put_asserts-put_own_asserts-requires g t c κs within =
    let part = smaller c.args.stmts.now c.loop-stmt.stmt-index c.stmt-item.result c.loop-stmt-test.true c.stmt-item.is in
    (rw (← c.decreases) (omega (arith, part)), (within.0, (within.1, c.requires)))

pub put_asserts-loop-stmt-init : goal.put_asserts-loop-stmt-init
put_asserts-loop-stmt-init g t c = λ new h. h

pub put_asserts-loop-stmt-preserved : goal.put_asserts-loop-stmt-preserved
put_asserts-loop-stmt-preserved g t c = λ new more.
    c.loop-stmt.invariant new
    (put_next (scope_seen c.args.self.now) c.args.stmts.now c.loop-stmt.stmt-index c.stmt-item.result c.loop-stmt.sides.items
    c.put_own_asserts.new.sides.items new c.loop-stmt-test.true c.stmt-item.is c.in_ok-put_own_asserts.ensures more)

pub put_asserts-returns : goal.put_asserts-returns
put_asserts-returns g t c =
    c.loop-stmt.invariant c.loop-stmt.sides.items
    (put_end (scope_seen c.args.self.now) c.args.stmts.now c.loop-stmt.stmt-index c.loop-stmt.sides.items c.loop-stmt-test.false)

pub put_own_asserts-put_asserts-requires : goal.put_own_asserts-put_asserts-requires
put_own_asserts-put_asserts-requires g t c κs within =
    (rw (← c.decreases) (omega (arith, ap statements c.inside.ensures.first)), (within.0, (within.1, c.requires)))

pub put_own_asserts-put_asserts-requires-2 : goal.put_own_asserts-put_asserts-requires-2
put_own_asserts-put_asserts-requires-2 g t c κs within =
    (rw (← c.decreases) (omega (arith, ap statements c.inside.ensures.second)), (within.0, (within.1, c.requires)))

pub put_own_asserts-returns : goal.put_own_asserts-returns
put_own_asserts-returns g t c =
    IfOk-weaker c.put_asserts-2.result _ _
    (λ u right.
    put_own (scope_seen c.args.self.now) c.args.stmt.now c.inside.result.0.now c.inside.result.1.now c.args.sides.now.items
    c.put.new.list.items c.put_asserts.new.sides.items c.put_asserts-2.new.sides.items c.asserted.result c.asserted.ensures
    c.in_ok-put.ensures c.inside.ensures.first c.inside.ensures.second c.in_ok-put_asserts.ensures right)
    c.put_asserts-2.ensures
