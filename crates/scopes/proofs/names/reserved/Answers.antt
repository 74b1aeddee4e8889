use Rattle.scopes.proofs.Earliest.{as_found, found_in}
use Rattle.scopes.proofs.names.reserved.Goals as goal

pub returns : goal.returns
returns g c = found_in _ _ _ _ c.args.names.now c.earliest.result (λ y a k. search as_found) c.earliest.ensures
