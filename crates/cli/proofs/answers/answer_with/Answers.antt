-- A reply with a status of 2 or 3 reports a refusal that stands.
use Rattle.std.proofs.Common.{Some, None, arith, subst, sym}
use Rattle.path_sets.specs.EdgeLimits.{most_of}
use Rattle.round_rewrite.specs.Programs.{count_of}
use Rattle.cli.specs.Replies.{IsPastLimit, Refuses}
use Rattle.orders.specs.declared.order.Order.{Order}
use Rattle.cli.proofs.Refusing.{answers_few, is_past, rewriting_few, tells_many, tells_none}
use Rattle.cli.proofs.answers.answer_with.Goals as goal

pub returns-in-Check-clause-refuses : goal.returns-in-Check-clause-refuses
returns-in-Check-clause-refuses g c = λ many.
    subst (λ (o : Order). Refuses c.args.text.now o c.verdict.result) (sym c.in-Check.is)
    (tells_many c.args.text.now (count_of c.in-Check.rounds) (Some (most_of c.in-Check.edges)) c.verdict.result _
    (answers_few _ _ _ _ _ _) c.verdict.ensures many)

pub returns-in-Check-clause-limit : goal.returns-in-Check-clause-limit
returns-in-Check-clause-limit g c = λ three edge.
    subst (λ (o : Order). IsPastLimit c.args.text.now o) (sym c.in-Check.is)
    (is_past c.args.text.now (count_of c.in-Check.rounds) (Some (most_of c.in-Check.edges)) c.verdict.result
    (tells_many c.args.text.now (count_of c.in-Check.rounds) (Some (most_of c.in-Check.edges)) c.verdict.result _
    (answers_few _ _ _ _ _ _) c.verdict.ensures (omega (arith, three))) edge)

pub returns-in-Sequential-clause-refuses : goal.returns-in-Sequential-clause-refuses
returns-in-Sequential-clause-refuses g c = λ many.
    subst (λ (o : Order). Refuses c.args.text.now o c.rewriting.result) (sym c.in-Sequential.is)
    (tells_many c.args.text.now (count_of c.in-Sequential.rounds) None c.rewriting.result _
    (rewriting_few _ _ _ _) c.rewriting.ensures many)

pub returns-in-Check-clause-silent : goal.returns-in-Check-clause-silent
returns-in-Check-clause-silent g c = λ few.
    tells_none c.args.text.now (count_of c.in-Check.rounds) (Some (most_of c.in-Check.edges)) c.verdict.result _
    c.verdict.ensures few

pub returns-in-Sequential-clause-silent : goal.returns-in-Sequential-clause-silent
returns-in-Sequential-clause-silent g c = λ few.
    tells_none c.args.text.now (count_of c.in-Sequential.rounds) None c.rewriting.result _ c.rewriting.ensures few
