use Rattle.std.proofs.Common.{◌∙◌, ap, append_assoc}
use Rattle.std.specs.String.{string_bytes}
use Rattle.tokens.proofs.PartsCut.{text_of-append}
use Rattle.trees.specs.Trees.{expr_of}
use Rattle.trees.proofs.Folds.{expr_of-Two}
use Rattle.syntax.proofs.Prints.{put_last}
use Rattle.syntax.proofs.print_expressions.ExprShow.print.Goals as goal

pub returns-in_ok-push_str-in-Two : goal.returns-in_ok-push_str-in-Two
returns-in_ok-push_str-in-Two g c =
    rw (
      ap expr_of c.in-Two.is ∙ expr_of-Two c.in-Two.op c.in-Two.left c.in-Two.right,
      ← c.deref.ensures,
      ← c.deref-in-Two.ensures,
    )
    (put_last c.print_operand-in-Two.result _ (string_bytes c.push_str.new.self) _ _ c.print_operand-in-Two.ensures
    (rw (c.in_ok-push_str-in-Two.ensures.bytes, c.sign.ensures, c.in_ok-print_operand-in-Two.ensures)
    (simp (text_of-append, append_assoc))))
