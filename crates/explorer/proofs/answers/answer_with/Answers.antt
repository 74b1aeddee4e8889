-- A reply with a status of 2 or 3 reports a refusal that stands.
use Rattle.explorer.proofs.Refusing.{refuses, reported_refuses}
use Rattle.explorer.proofs.answers.answer_with.Goals as goal

pub returns-in-Ok-clause-refuses : goal.returns-in-Ok-clause-refuses
returns-in-Ok-clause-refuses g c =
    reported_refuses c.args.text.now c.args.order c.in-Ok.report c.reported.result _ c.in-Ok.ensures.report c.reported.ensures

pub returns-in-Err-clause-refuses : goal.returns-in-Err-clause-refuses
returns-in-Err-clause-refuses g c = λ many.
    refuses c.args.text.now c.args.order c.in-Err.why c.refused.result c.in-Err.ensures.stands c.refused.ensures
