-- Each form has the value of the expression.
use Rattle.std.proofs.Common.{◌∙◌, ◌++◌, [], sym, subst}
use Rattle.std.specs.Prelude.{IfSome}
use Rattle.std.proofs.lemmas.Bool.{false≢true}
use Rattle.trees.specs.Trees.{expr_of}
use Rattle.flow_graph.specs.Bits.{bit_of, coded}
use Rattle.flow_graph.specs.Formulas.{IsTruthTableIn, AreTruthTablesOf}
use Rattle.flow_graph.specs.Views.{scope_seen, over_bits}
use Rattle.flow_graph.proofs.Worths.{worth_is_value, read_bit}
use Rattle.flow_graph.proofs.scope.Scope.formula.Goals as goal

pub returns-in-Some : goal.returns-in-Some
returns-in-Some g c gs ls e =
    read_bit (over_bits c.args.self.now c.args.e.now) c.in-Some.bit (coded (gs ++ ls)) (sym c.variable.ensures.bit ∙ c.in-Some.is)
    ∙ worth_is_value (scope_seen c.args.self.now) gs ls (expr_of c.args.e.now) e

pub returns-in-Some-2 : goal.returns-in-Some-2
returns-in-Some-2 g c gs ls e =
    let over = over_bits c.args.self.now c.args.e.now in
    let table = subst (λ made. IfSome made (λ t. IsTruthTableIn t [] 0 over)) c.in-Some-2.is c.in_ok-table.ensures in
    table (coded (gs ++ ls)) (λ b h. absurd (false≢true h))
    ∙ worth_is_value (scope_seen c.args.self.now) gs ls (expr_of c.args.e.now) e

pub returns-in-Some-3 : goal.returns-in-Some-3
returns-in-Some-3 g c gs ls e =
    let over = over_bits c.args.self.now c.args.e.now in
    let cases = subst (λ made. IfSome made (λ p. AreTruthTablesOf p over)) c.in-Some-3.is c.in_ok-cases.ensures in
    cases (coded (gs ++ ls)) ∙ worth_is_value (scope_seen c.args.self.now) gs ls (expr_of c.args.e.now) e

pub returns-in_ok-postfix-in-None : goal.returns-in_ok-postfix-in-None
returns-in_ok-postfix-in-None g c gs ls e =
    c.in_ok-postfix-in-None.ensures (bit_of (coded (gs ++ ls)))
    ∙ worth_is_value (scope_seen c.args.self.now) gs ls (expr_of c.args.e.now) e
