use Rattle.std.proofs.Common.{◌≡◌, ◌∙◌, ap, [], ◌+◌, ◌<◌, ◌≤◌, ◌*◌, arith, List}
use Rattle.std.specs.declared.vec.Vec.{Vec}
use Rattle.std.specs.String.{string_bytes}
use Rattle.trees.specs.Trees.{deed_of, rhs_of, block_of}
use Rattle.language.specs.Sequential.{statements}
use Rattle.trees.specs.declared.tree.Rhs.{Rhs}
use Rattle.trees.specs.declared.tree.Stmt.{Stmt}
use Rattle.trees.specs.declared.tree.Core.{Core}
use Rattle.trees.specs.declared.tree.Core.TheVariants.{If, While}
use Rattle.trees.proofs.Folds.{deed_of-If, deed_of-While}
use Rattle.trees.proofs.Held.{held, smaller}
use Rattle.syntax.proofs.PrintedBlocks.{deed_printed, one_printed, none_left}
use Rattle.syntax.proofs.Prints.{branch_arms, loop_arm}
use Rattle.syntax.proofs.print_statements.+printing.Goals as goal

-- what an `if` or a `while` holds is printed at a smaller measure
inside_if : {A : Type 0} (k : Core A) (r : Rhs A) (a b : Vec (Stmt A) A) → k ≡ If r a b
    → held (deed_of k) ≡ statements (block_of a.items) + statements (block_of b.items)
inside_if k r a b is = ap (λ c. held (deed_of c)) is ∙ ap held (deed_of-If r a b)

first_inside : {A : Type 0} (k : Core A) (r : Rhs A) (a b : Vec (Stmt A) A) (xs : List (Stmt A)) → k ≡ If r a b → xs ≡ a.items
    → 2 * statements (block_of xs) < 2 * held (deed_of k) + 1
first_inside k r a b xs is e = let h = inside_if k r a b is in rw e (omega (arith, h))

second_inside : {A : Type 0} (k : Core A) (r : Rhs A) (a b : Vec (Stmt A) A) (ys : List (Stmt A)) → k ≡ If r a b → ys ≡ b.items
    → 2 * statements (block_of ys) < 2 * held (deed_of k) + 1
second_inside k r a b ys is f = let h = inside_if k r a b is in rw f (omega (arith, h))

inside_while : {A : Type 0} (k : Core A) (r : Rhs A) (a : Vec (Stmt A) A) (xs : List (Stmt A)) → k ≡ While r a
    → xs ≡ a.items → 2 * statements (block_of xs) < 2 * held (deed_of k) + 1
inside_while k r a xs is e =
    let h : held (deed_of k) ≡ statements (block_of a.items) + 0 = ap (λ c. held (deed_of c)) is ∙ ap held (deed_of-While r a) in
    rw e (omega (arith, h))

pub print_block-print_arms-requires : goal.print_block-print_arms-requires
print_block-print_arms-requires g t c κs within =
    let less : held (deed_of c.stmt-item.result.core) + 1 ≤ statements (block_of c.args.stmts.now) =
    smaller c.args.stmts.now c.loop-stmt.stmt-index c.stmt-item.result c.loop-stmt-test.true c.stmt-item.is in
    let falls : 2 * held (deed_of c.stmt-item.result.core) + 1 < 2 * statements (block_of c.args.stmts.now) = omega arith in
    (rw (← c.decreases) falls, within)

pub print_block-loop-stmt-preserved : goal.print_block-loop-stmt-preserved
print_block-loop-stmt-preserved g t c =
    let deed = deed_printed c.args.level (deed_of c.stmt-item.result.core) (string_bytes c.print_label.new.out)
    (string_bytes c.print_head.new.out) (string_bytes c.print_arms.new.out) c.in_ok-print_head.ensures c.in_ok-print_arms.ensures in
    one_printed c.args.level c.args.stmts.now c.loop-stmt.stmt-index c.stmt-item.result (string_bytes c.loop-stmt.out)
    (string_bytes c.print_margin.new.out) (string_bytes c.print_label.new.out) (string_bytes c.print_arms.new.out) _
    c.loop-stmt-test.true c.stmt-item.is c.loop-stmt.invariant c.in_ok-print_margin.ensures c.in_ok-print_label.ensures
    deed

pub print_block-returns : goal.print_block-returns
print_block-returns g t c =
    none_left c.args.level c.args.stmts.now c.loop-stmt.stmt-index
    (string_bytes c.loop-stmt.out) _ c.loop-stmt-test.false c.loop-stmt.invariant

pub print_arms-returns-in_ok-print_block-in-If-2 : goal.print_arms-returns-in_ok-print_block-in-If-2
print_arms-returns-in_ok-print_block-in-If-2 g t c =
    rw (ap deed_of c.in-If.is ∙ deed_of-If c.in-If.field-0 c.in-If.then c.in-If.otherwise)
    (branch_arms c.print_line-in-If.result (string_bytes c.args.out.now) (string_bytes c.print_line-in-If.new.out)
    (string_bytes c.print_block.new.out) (string_bytes c.print_line.new.out) (string_bytes c.print_block-in-If.new.out)
    c.args.level c.in_ok-inner.inner (block_of c.in-If.then.items) (rhs_of c.in-If.field-0) c.in_ok-inner.ensures.next (block_of c.in-If.otherwise.items)
    (rw c.deref.ensures.value at c.in_ok-print_block-in-If.ensures) c.in_ok-print_line-in-If.ensures
    (rw c.deref-in-If.ensures.value at c.in_ok-print_block-in-If-2.ensures) c.print_line-in-If.ensures)

pub print_arms-returns-in_ok-print_block-in-While : goal.print_arms-returns-in_ok-print_block-in-While
print_arms-returns-in_ok-print_block-in-While g t c =
    rw (ap deed_of c.in-While.is ∙ deed_of-While c.in-While.field-0 c.in-While.body)
    (loop_arm c.print_line-in-While.result (string_bytes c.args.out.now) (string_bytes c.print_line-in-While.new.out)
    (string_bytes c.print_block-in-While.new.out) [] [] c.args.level c.in_ok-inner.inner (block_of c.in-While.body.items) (rhs_of c.in-While.field-0)
    c.in_ok-inner.ensures.next
    (rw c.deref-in-While.ensures.value at c.in_ok-print_block-in-While.ensures) c.print_line-in-While.ensures)

pub print_arms-print_block-requires : goal.print_arms-print_block-requires
print_arms-print_block-requires g t c κs within =
    let inside = first_inside c.args.core.now c.in-If.field-0 c.in-If.then c.in-If.otherwise c.deref.result.now
    c.in-If.is c.deref.ensures.value in
    (rw (← c.decreases) inside, within)

pub print_arms-print_block-requires-in-If : goal.print_arms-print_block-requires-in-If
print_arms-print_block-requires-in-If g t c κs within =
    let inside = second_inside c.args.core.now c.in-If.field-0 c.in-If.then c.in-If.otherwise c.deref-in-If.result.now
    c.in-If.is c.deref-in-If.ensures.value in
    (rw (← c.decreases) inside, within)

pub print_arms-print_block-requires-in-While : goal.print_arms-print_block-requires-in-While
print_arms-print_block-requires-in-While g t c κs within =
    let inside = inside_while c.args.core.now c.in-While.field-0 c.in-While.body c.deref-in-While.result.now
    c.in-While.is c.deref-in-While.ensures.value in
    (rw (← c.decreases) inside, within)
