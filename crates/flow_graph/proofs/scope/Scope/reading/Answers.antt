-- A bit is read, or 0 for what is declared nowhere.
use Rattle.std.proofs.Common.{◌∷◌, [], false, sym, ◌∙◌, subst}
use Rattle.flow_graph.specs.Located.{read_of}
use Rattle.flow_graph.specs.Postfix.{Evaluates}
use Rattle.flow_graph.specs.declared.postfix.Instruction.TheVariants.{Read, Constant}
use Rattle.flow_graph.proofs.Codes.{bit_read, constant_read}
use Rattle.flow_graph.proofs.scope.Scope.reading.Goals as goal

pub returns-in-Some : goal.returns-in-Some
returns-in-Some g c =
    subst (λ o. Evaluates (read_of o) (Read c.in-Some.bit ∷ [])) (sym c.in-Some.is ∙ c.bit.ensures.bit)
    (bit_read c.in-Some.bit c.in-Some.ensures.small)

pub returns-in-None : goal.returns-in-None
returns-in-None g c =
    subst (λ o. Evaluates (read_of o) (Constant false ∷ [])) (sym c.in-None.is ∙ c.bit.ensures.bit) (constant_read false)
