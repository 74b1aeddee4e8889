use Rattle.std.proofs.Common.{[], refl, ◌∙◌, ap, arith, sym}
use Rattle.language.specs.Tree.{done}
use Rattle.trees.specs.Trees.{rhs_of, deed_of, block_of, items_of, all_before}
use Rattle.trees.specs.Parts.{first_inside, second_inside}
use Rattle.round_rewrite.specs.Table.{no_mark, prologue}
use Rattle.round_rewrite.specs.Writing.{naming_of, forms}
use Rattle.trees.proofs.Held.{smaller}
use Rattle.round_rewrite.proofs.Forms.{one_more, no_more, block_done, block_whole, if_is, while_is, first_smaller, second_smaller}
use Rattle.trees.proofs.Folds.{deed_of-If, deed_of-While}
use Rattle.round_rewrite.proofs.writer.Writer.+rewriting.Goals as goal

pub rewritten-loop-stmt-init : goal.rewritten-loop-stmt-init
rewritten-loop-stmt-init g t c = λ rest.
    ap (λ ss. all_before (items_of ss) (forms (naming_of c.args.self.now) c.args.self.now.rounds.last
    (items_of c.args.stmts.now) rest)) c.new-list.ensures.items

pub rewritten-core-requires : goal.rewritten-core-requires
rewritten-core-requires g t c κs within =
    let part = smaller c.args.stmts.now c.loop-stmt.stmt-index c.stmt-item.result c.loop-stmt-test.true c.stmt-item.is
    in
    (rw (← c.decreases) (omega (arith, part)), within)

pub rewritten-loop-stmt-preserved : goal.rewritten-loop-stmt-preserved
rewritten-loop-stmt-preserved g t c =
    one_more (naming_of c.args.self.now) c.args.self.now.rounds.last c.args.stmts.now c.loop-stmt.stmt-index
    c.stmt-item.result c.loop-stmt-test.true c.stmt-item.is
    c.loop-stmt.list.items c.begin.new.into.items c.core.new.into.items _ refl
    c.in_ok-begin.ensures c.in_ok-core.ensures _ c.loop-stmt.invariant

pub rewritten-returns : goal.rewritten-returns
rewritten-returns g t c =
    no_more (naming_of c.args.self.now) c.args.self.now.rounds.last c.args.stmts.now c.loop-stmt.stmt-index
    c.loop-stmt-test.false c.loop-stmt.list.items
    (λ rest. forms (naming_of c.args.self.now) c.args.self.now.rounds.last (items_of c.args.stmts.now) rest)
    c.loop-stmt.invariant

pub core-rewritten-requires : goal.core-rewritten-requires
core-rewritten-requires g t c κs within =
    let is = ap deed_of c.in-If.is ∙ deed_of-If c.in-If.r c.in-If.a c.in-If.b in (
      rw (← c.decreases) (first_smaller (deed_of c.args.core.now) (block_of c.deref.result.now)
          (ap first_inside is ∙ ap block_of (sym c.deref.ensures.value))),
      within,
    )

pub core-rewritten-requires-in-If : goal.core-rewritten-requires-in-If
core-rewritten-requires-in-If g t c κs within =
    let is = ap deed_of c.in-If.is ∙ deed_of-If c.in-If.r c.in-If.a c.in-If.b in (
      rw (← c.decreases) (second_smaller (deed_of c.args.core.now) (block_of c.deref-in-If.result.now)
          (ap second_inside is ∙ ap block_of (sym c.deref-in-If.ensures.value))),
      within,
    )

pub core-rewritten-requires-in-While : goal.core-rewritten-requires-in-While
core-rewritten-requires-in-While g t c κs within =
    let is = ap deed_of c.in-While.is ∙ deed_of-While c.in-While.r c.in-While.a in (
      rw (← c.decreases) (first_smaller (deed_of c.args.core.now) (block_of c.deref-in-While.result.now)
          (ap first_inside is ∙ ap block_of (sym c.deref-in-While.ensures.value))),
      within,
    )

pub core-returns-in_ok-no-in-If : goal.core-returns-in_ok-no-in-If
core-returns-in_ok-no-in-If g t c =
    let w = naming_of c.args.self.now in
    let last = c.args.self.now.rounds.last in
    let x = c.in-If.a.items in
    let y = c.in-If.b.items in
    let yes = c.in_ok-yes-in-If.yes.items in
    let no = c.in_ok-no-in-If.no.items in
    if_is w last c.push_if.result (λ _. c.push_if.new.into.items) c.args.into.now.items c.args.core.now
    (rhs_of c.in-If.r) (block_of x) (block_of y) (block_of yes) (block_of no)
    (ap deed_of c.in-If.is ∙ deed_of-If c.in-If.r c.in-If.a c.in-If.b)
    (block_done w last [] yes c.deref.result.now x refl c.deref.ensures.value c.in_ok-yes-in-If.ensures)
    (block_done w last [] no c.deref-in-If.result.now y refl c.deref-in-If.ensures.value c.in_ok-no-in-If.ensures)
    c.push_if.ensures

pub core-returns-in_ok-body-in-While : goal.core-returns-in_ok-body-in-While
core-returns-in_ok-body-in-While g t c =
    let w = naming_of c.args.self.now in
    let last = c.args.self.now.rounds.last in
    let x = c.in-While.a.items in
    let body = c.in_ok-body-in-While.body.items in
    let after = prologue w last no_mark done in
    while_is w last c.push_while.result (λ _. c.push_while.new.into.items) c.args.into.now.items c.args.core.now
    (rhs_of c.in-While.r) (block_of x) (all_before (items_of body) after)
    (ap deed_of c.in-While.is ∙ deed_of-While c.in-While.r c.in-While.a)
    (block_whole w last [] body c.deref-in-While.result.now x refl c.deref-in-While.ensures.value c.in_ok-body-in-While.ensures after)
    c.push_while.ensures
