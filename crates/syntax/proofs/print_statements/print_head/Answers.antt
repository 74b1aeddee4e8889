use Rattle.std.proofs.Common.{◌∙◌, ap, refl, append_assoc}
use Rattle.std.specs.String.{string_bytes}
use Rattle.trees.specs.Trees.{deed_of, expr_of}
use Rattle.tokens.proofs.PartsCut.{text_of-append}
use Rattle.trees.proofs.Folds.{deed_of-Skip, deed_of-Return, deed_of-Goto, deed_of-Assign, deed_of-Assert, deed_of-Assume}
use Rattle.trees.proofs.Folds.{deed_of-Call, deed_of-Give, deed_of-CallTo, deed_of-If, deed_of-While}
use Rattle.syntax.proofs.Prints.{pushed_last, put_last, given_text}
use Rattle.syntax.proofs.print_statements.print_head.Goals as goal

pub returns-in-Skip : goal.returns-in-Skip
returns-in-Skip g c =
    rw (ap deed_of c.in-Skip.is ∙ deed_of-Skip _)
    (pushed_last c.push_str.result _ (string_bytes c.args.out.now) _ _ c.push_str.ensures.bytes refl)

pub returns-in-Return : goal.returns-in-Return
returns-in-Return g c =
    rw (ap deed_of c.in-Return.is ∙ deed_of-Return _)
    (pushed_last c.push_str-in-Return.result _ (string_bytes c.args.out.now) _ _ c.push_str-in-Return.ensures.bytes refl)

pub returns-in-Goto : goal.returns-in-Goto
returns-in-Goto g c =
    rw (ap deed_of c.in-Goto.is ∙ deed_of-Goto c.in-Goto.label)
    (put_last c.print_between.result _ (string_bytes c.args.out.now) _ _ c.print_between.ensures
    (simp (text_of-append, append_assoc)))

pub returns-in-Assign : goal.returns-in-Assign
returns-in-Assign g c =
    rw (ap deed_of c.in-Assign.is ∙ deed_of-Assign c.in-Assign.targets c.in-Assign.sides)
    (rw (c.deref.ensures.value, c.deref-in-Assign.ensures.value) at c.print_assignment.ensures)

pub returns-in-Call : goal.returns-in-Call
returns-in-Call g c =
    rw (ap deed_of c.in-Call.is ∙ deed_of-Call c.in-Call.name c.in-Call.arguments)
    (rw c.deref-in-Call.ensures.value at c.print_call.ensures)

pub returns-in-Give : goal.returns-in-Give
returns-in-Give g c =
    rw (ap deed_of c.in-Give.is ∙ deed_of-Give c.in-Give.value)
    (put_last c.print_between-in-Give.result _ (string_bytes c.args.out.now) _ _ c.print_between-in-Give.ensures
    (given_text (string_bytes c.args.out.now) (expr_of c.in-Give.value)))

pub returns-in-CallTo : goal.returns-in-CallTo
returns-in-CallTo g c =
    rw (ap deed_of c.in-CallTo.is ∙ deed_of-CallTo c.in-CallTo.target c.in-CallTo.name c.in-CallTo.arguments)
    (rw c.deref-in-CallTo.ensures.value at c.print_asking.ensures)

pub returns-in-Assert : goal.returns-in-Assert
returns-in-Assert g c =
    rw (ap deed_of c.in-Assert.is ∙ deed_of-Assert c.in-Assert.side)
    (put_last c.print_between-in-Assert.result _ (string_bytes c.args.out.now) _ _ c.print_between-in-Assert.ensures (simp (text_of-append, append_assoc)))

pub returns-in-Assume : goal.returns-in-Assume
returns-in-Assume g c =
    rw (ap deed_of c.in-Assume.is ∙ deed_of-Assume c.in-Assume.side)
    (put_last c.print_between-in-Assume.result _ (string_bytes c.args.out.now) _ _ c.print_between-in-Assume.ensures
    (simp (text_of-append, append_assoc)))

pub returns-in-If : goal.returns-in-If
returns-in-If g c =
    rw (ap deed_of c.in-If.is ∙ deed_of-If c.in-If.side c.in-If.field-1 c.in-If.field-2)
    (put_last c.print_between-in-If.result _ (string_bytes c.args.out.now) _ _ c.print_between-in-If.ensures
    (simp (text_of-append, append_assoc)))

pub returns-in-While : goal.returns-in-While
returns-in-While g c =
    rw (ap deed_of c.in-While.is ∙ deed_of-While c.in-While.side c.in-While.field-1)
    (put_last c.print_between-in-While.result _ (string_bytes c.args.out.now) _ _ c.print_between-in-While.ensures
    (simp (text_of-append, append_assoc)))
