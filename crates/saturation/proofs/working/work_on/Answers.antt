use Rattle.std.proofs.Common.{sym, subst}
use Rattle.saturation.specs.Work.{ListsAlso}
use Rattle.saturation.proofs.CallLemmas.{lists_gone}
use Rattle.saturation.proofs.working.work_on.Goals as goal

pub returns-in-Gone-clause-listed : goal.returns-in-Gone-clause-listed
returns-in-Gone-clause-listed g c = λ false_is.
    subst (λ z. ListsAlso z c.args.calls.now c.args.calls.now) (sym c.in-Gone.is) (lists_gone c.args.calls.now _)
