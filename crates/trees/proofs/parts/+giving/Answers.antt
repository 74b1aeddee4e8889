use Rattle.std.proofs.Common.{◌+◌, ◌*◌, ◌<◌, ◌∙◌, ap, sym, arith}
use Rattle.std.proofs.lemmas.Bool.{false≢true}
use Rattle.language.specs.Sequential.{statements}
use Rattle.language.specs.Resolve.{gives_value}
use Rattle.trees.specs.Trees.{deed_of, block_of}
use Rattle.trees.specs.Parts.{first_inside, second_inside}
use Rattle.trees.proofs.Held.{held, smaller}
use Rattle.trees.proofs.GivesFirst.{gives_on, gives_here, gives_no_more, own_gives, first_held, second_held}
use Rattle.trees.proofs.parts.+giving.Goals.{gives_within-then-gives, gives_within-else-gives}
use Rattle.trees.proofs.parts.+giving.Goals as goal

pub give_value-gives_within-requires : goal.give_value-gives_within-requires
give_value-gives_within-requires g t c κs within =
    let part = smaller c.args.stmts.now c.loop-stmt.stmt-index c.stmt-item.result c.loop-stmt-test.true c.stmt-item.is in
    let less : 2 * held (deed_of c.stmt-item.result.core) + 2 < 2 * statements (block_of c.args.stmts.now) + 1 = omega (arith, part) in
    (rw (← c.decreases) less, within)

pub give_value-returns-then-gives_within : goal.give_value-returns-then-gives_within
give_value-returns-then-gives_within g t c =
    gives_here c.args.stmts.now c.loop-stmt.stmt-index c.stmt-item.result _ c.loop-stmt-test.true c.stmt-item.is
    (sym c.gives_within.ensures ∙ c.if-gives_within.true) c.loop-stmt.invariant

pub give_value-loop-stmt-preserved : goal.give_value-loop-stmt-preserved
give_value-loop-stmt-preserved g t c =
    gives_on c.args.stmts.now c.loop-stmt.stmt-index c.stmt-item.result _ c.loop-stmt-test.true c.stmt-item.is
    (sym c.gives_within.ensures ∙ c.if-gives_within.false) c.loop-stmt.invariant

pub give_value-returns : goal.give_value-returns
give_value-returns g t c = gives_no_more c.args.stmts.now c.loop-stmt.stmt-index _ c.loop-stmt-test.false c.loop-stmt.invariant

pub gives_within-returns-then-give_value : goal.gives_within-returns-then-give_value
gives_within-returns-then-give_value g t c =
    elim c.if-gives.branch [
      | gives_within-then-gives w ↦
          own_gives c.if-gives.value _ (gives_value (first_inside (deed_of c.args.core.now)))
          (gives_value (second_inside (deed_of c.args.core.now))) (w.value-is ∙ c.gives.ensures) c.if-give_value.true
      | gives_within-else-gives w ↦
          first_held c.if-gives.value _ _ _ (sym c.gives.ensures ∙ w.if-gives.false)
          (w.value-is ∙ (w.give_value.ensures ∙ ap gives_value c.inside.ensures.first)) c.if-give_value.true
    ]

pub gives_within-returns-else-give_value : goal.gives_within-returns-else-give_value
gives_within-returns-else-give_value g t c =
    let last = c.give_value-else-give_value.ensures ∙ ap gives_value c.inside.ensures.second in
    elim c.if-gives.branch [
      | gives_within-then-gives w ↦ absurd (false≢true (sym c.if-give_value.false ∙ (w.value-is ∙ w.if-gives.true)))
      | gives_within-else-gives w ↦
          second_held c.give_value-else-give_value.result _ _ _ (sym c.gives.ensures ∙ w.if-gives.false)
          (sym (w.value-is ∙ (w.give_value.ensures ∙ ap gives_value c.inside.ensures.first)) ∙ c.if-give_value.false) last
    ]
