use Rattle.std.proofs.Common.{max, ◌∙◌, ap, arith}
use Rattle.round_rewrite.specs.Table.{temporaries}
use Rattle.round_rewrite.specs.Writing.{naming_of}
use Rattle.trees.proofs.Held.{smaller}
use Rattle.round_rewrite.proofs.NeedLemmas.{one_more, no_more}
use Rattle.round_rewrite.proofs.writer.Writer.+needs.Goals as goal

pub needs-needs_of-requires : goal.needs-needs_of-requires
needs-needs_of-requires g t c κs within =
    let part = smaller c.args.stmts.now c.loop-stmt.stmt-index c.stmt-item.result c.loop-stmt-test.true c.stmt-item.is in
    (rw (← c.decreases) (omega (arith, part)), within)

pub needs-loop-stmt-preserved : goal.needs-loop-stmt-preserved
needs-loop-stmt-preserved g t c =
    one_more
    (naming_of c.args.self.now).is_shared c.args.stmts.now c.loop-stmt.stmt-index c.stmt-item.result c.loop-stmt.number
    c.needs_of.result c.larger-number.result _
    c.loop-stmt-test.true c.stmt-item.is c.needs_of.ensures c.larger-number.ensures c.loop-stmt.invariant

pub needs-returns : goal.needs-returns
needs-returns g t c =
    no_more
    (naming_of c.args.self.now).is_shared c.args.stmts.now c.loop-stmt.stmt-index c.loop-stmt.number _ c.loop-stmt-test.false
    c.loop-stmt.invariant

pub needs_of-returns : goal.needs_of-returns
needs_of-returns g t c =
    let shared = (naming_of c.args.self.now).is_shared in
    let first = c.needs.ensures ∙ ap (temporaries shared) c.inside.ensures.first in
    let second = c.needs-2.ensures ∙ ap (temporaries shared) c.inside.ensures.second in
    let held = c.larger-held.ensures ∙ (λ i. max (first i) (second i)) in
    c.larger.ensures ∙ (λ i. max (c.own_needs.ensures i) (held i))
