-- An end names a cause, or none.
use Rattle.std.proofs.Common.{◌++◌, ◌∷◌, [], Some, sym, subst}
use Rattle.gather.specs.Gathered.{IsLeastOf}
use Rattle.gather.proofs.Causes.{same_least, more_least, not_failed}
use Rattle.gather.proofs.gathering.least_with.Goals as goal

pub returns-in-Failed : goal.returns-in-Failed
returns-in-Failed c = λ ends at before.
    subst (λ e. IsLeastOf (ends ++ e ∷ []) (Some c.lesser.result)) (sym c.in-Failed.is)
    (more_least ends _ c.args.least c.lesser.result at before c.lesser.ensures)

pub returns-in-Closed : goal.returns-in-Closed
returns-in-Closed c = λ ends at before. same_least ends c.args.end c.args.least (not_failed c.args.end c.in-Closed.is) before
