-- Each statement is counted once.
use Rattle.std.proofs.Common.{ap, arith}
use Rattle.language.specs.Sequential.{statements}
use Rattle.trees.proofs.Held.{smaller}
use Rattle.flow_graph.proofs.CountLemmas.{alone_counts, next_counts, end_counts}
use Rattle.flow_graph.proofs.sizes.+sizes.Goals as goal

pub size-size_of-requires : goal.size-size_of-requires
size-size_of-requires g t c κs within =
    let part = smaller c.args.stmts.now c.loop-stmt.stmt-index c.stmt-item.result c.loop-stmt-test.true c.stmt-item.is in
    (rw (← c.decreases) (omega (arith, part)), within)

pub size-loop-stmt-preserved : goal.size-loop-stmt-preserved
size-loop-stmt-preserved g t c most =
    let so_far = c.loop-stmt.invariant most in
    let next = next_counts c.args.stmts.now c.loop-stmt.stmt-index c.stmt-item.result c.loop-stmt-test.true c.stmt-item.is in
    let one = c.size_of.ensures (omega (arith, so_far, next, most)) in
    omega (arith, so_far, next, one, most, c.saturating_add-number.ensures)

pub size-returns : goal.size-returns
size-returns g t c most =
    omega (arith, c.loop-stmt.invariant most, end_counts c.args.stmts.now c.loop-stmt.stmt-index c.loop-stmt-test.false)

pub size_of-returns : goal.size_of-returns
size_of-returns g t c most =
    let whole = alone_counts c.args.stmt.now in
    let a = ap statements c.inside.ensures.first in
    let b = ap statements c.inside.ensures.second in
    let first = c.size.ensures (omega (arith, whole, a, b, most)) in
    let second = c.size-2.ensures (omega (arith, whole, a, b, most)) in
    omega (arith, whole, a, b, first, second, most, c.saturating_add.ensures, c.saturating_add-2.ensures)
