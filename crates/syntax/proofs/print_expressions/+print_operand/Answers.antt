use Rattle.std.proofs.Common.{◌≡◌, ◌++◌, ◌∙◌, ap, sym, refl, true, false, append_assoc}
use Rattle.std.specs.String.{string_bytes}
use Rattle.trees.specs.Trees.{operator_of, expr_of}
use Rattle.trees.proofs.Folds.{expr_of-Const, expr_of-Var, expr_of-Not, expr_of-Two}
use Rattle.syntax.proofs.Prints.{pushed_last, put_last, two_pushed}
use Rattle.syntax.proofs.print_expressions.+print_operand.Goals as goal

pub returns-in_ok-print_operand-in-Two-2 : goal.returns-in_ok-print_operand-in-Two-2
returns-in_ok-print_operand-in-Two-2 g t c =
    rw (
      ap expr_of c.in-Two.is ∙ expr_of-Two c.in-Two.op c.in-Two.left c.in-Two.right,
      ← c.deref-in-Two.ensures,
      ← c.deref-in-Two-2.ensures,
    )
    (two_pushed c.push_str-in-Two-3.result (string_bytes c.args.out.now) (string_bytes c.push_str-in-Two-3.new.self)
    (string_bytes c.push_str-in-Two.new.self) (string_bytes c.print_operand-in-Two.new.out) (string_bytes c.push_str-in-Two-2.new.self)
    (string_bytes c.print_operand-in-Two-2.new.out) (operator_of c.in-Two.op) _ _
    c.in_ok-push_str-in-Two.ensures.bytes c.in_ok-print_operand-in-Two.ensures
    (c.in_ok-push_str-in-Two-2.ensures.bytes ∙ ap (λ s. string_bytes c.print_operand-in-Two.new.out ++ s) c.sign.ensures)
    c.in_ok-print_operand-in-Two-2.ensures c.push_str-in-Two-3.ensures.bytes)

pub returns-in-Const-true : goal.returns-in-Const-true
returns-in-Const-true g t c =
    let is : c.in-Const-true.field-0 ≡ true = sym c.in-Const-true.field-0-is ∙ c.in-Const-true.field-0-test in
    rw (ap expr_of (rw is at c.in-Const-true.is) ∙ expr_of-Const _ true)
    (pushed_last c.push_str.result _ (string_bytes c.args.out.now) _ _ c.push_str.ensures.bytes refl)

pub returns-in-Const-false : goal.returns-in-Const-false
returns-in-Const-false g t c =
    let is : c.in-Const-false.field-0 ≡ false = sym c.in-Const-false.field-0-is ∙ c.in-Const-false.field-0-test in
    rw (ap expr_of (rw is at c.in-Const-false.is) ∙ expr_of-Const _ false)
    (pushed_last c.push_str-in-Const-false.result _ (string_bytes c.args.out.now) _ _ c.push_str-in-Const-false.ensures.bytes refl)

pub returns-in-Var : goal.returns-in-Var
returns-in-Var g t c = rw (ap expr_of c.in-Var.is ∙ expr_of-Var c.in-Var.name) c.print.ensures

pub returns-in_ok-push_str-in-Not : goal.returns-in_ok-push_str-in-Not
returns-in_ok-push_str-in-Not g t c =
    rw (ap expr_of c.in-Not.is ∙ expr_of-Not c.in-Not.inner, ← c.deref.ensures)
    (put_last c.print_operand.result _ (string_bytes c.push_str-in-Not.new.self) _ _ c.print_operand.ensures
    (rw c.in_ok-push_str-in-Not.ensures.bytes (simp append_assoc)))
