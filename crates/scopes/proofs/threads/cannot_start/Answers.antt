use Rattle.std.proofs.Common.{◌∙◌, subst, sym}
use Rattle.checked.specs.Faults.{CanStart}
use Rattle.scopes.proofs.Found.{here, not_here}
use Rattle.scopes.proofs.threads.cannot_start.Goals as goal

pub returns-in-None : goal.returns-in-None
returns-in-None g c = here c.args.line.now.name.at (λ h. subst (λ o. CanStart o) (sym c.in-None.ensures) h)

pub returns-then-takes_nothing : goal.returns-then-takes_nothing
returns-then-takes_nothing g c =
    not_here c.args.line.now.name.at
    (λ f. f (subst (λ o. CanStart o) c.in-Some.ensures (sym c.takes_nothing.ensures ∙ c.if-takes_nothing.true)))

pub returns-else-takes_nothing : goal.returns-else-takes_nothing
returns-else-takes_nothing g c =
    here c.args.line.now.name.at (λ h. let e = subst (λ o. CanStart o) (sym c.in-Some.ensures) h in let f = c.takes_nothing.ensures in
    let i = c.if-takes_nothing.false in absurd (cc))
