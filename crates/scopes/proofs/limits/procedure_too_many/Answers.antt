use Rattle.std.proofs.Common.{refl}
use Rattle.trees.specs.Trees.{proc_of}
use Rattle.checked.specs.Limits.{most_procedures}
use Rattle.scopes.proofs.Positions.{placed, unplaced}
use Rattle.scopes.proofs.limits.procedure_too_many.Goals as goal

pub returns-in-Some : goal.returns-in-Some
returns-in-Some g c =
    placed proc_of
    (λ p. p.name.at) c.args.procs.now most_procedures c.in-Some.proc.now c.in-Some.proc.now.name.at c.in-Some.ensures.lookup.3.0
    c.in-Some.ensures.lookup.1 refl

pub returns-in-None : goal.returns-in-None
returns-in-None g c = unplaced proc_of (λ p. p.name.at) c.args.procs.now most_procedures c.in-None.ensures.lookup.3
