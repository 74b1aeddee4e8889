-- The formals come before the locals, and both before the globals.
use Rattle.std.proofs.Common.{◌∙◌, sym, arith}
use Rattle.flow_graph.proofs.Places.{formal_small, local_small, formal_bit, local_bit, global_inside, global_outside}
use Rattle.flow_graph.proofs.scope.Scope.bit.Goals as goal

-- a formal's number is small enough
pub overflow_add-at : goal.overflow_add-at
overflow_add-at g c =
    let yes = sym c.declares.ensures ∙ c.if-declares.true in
    let small = formal_small c.args.self.now c.args.x.now _ _ c.requires yes c.number_of_name.ensures in
    omega (arith, small)

pub overflow_cast-result : goal.overflow_cast-result
overflow_cast-result g c =
    let yes = sym c.declares.ensures ∙ c.if-declares.true in
    let small = formal_small c.args.self.now c.args.x.now _ _ c.requires yes c.number_of_name.ensures in
    omega (arith, small)

pub returns-then-declares-clause-small : goal.returns-then-declares-clause-small
returns-then-declares-clause-small g c =
    let yes = sym c.declares.ensures ∙ c.if-declares.true in
    let small = formal_small c.args.self.now c.args.x.now _ _ c.requires yes c.number_of_name.ensures in
    omega (arith, small)

pub returns-then-declares-clause-bit : goal.returns-then-declares-clause-bit
returns-then-declares-clause-bit g c =
    formal_bit c.args.self.now c.args.x.now _ _ c.as_str-text.ensures.value (sym c.declares.ensures ∙ c.if-declares.true)
    c.number_of_name.ensures

-- a local's number is small enough
pub overflow_add-at-then-declares-2-2 : goal.overflow_add-at-then-declares-2-2
overflow_add-at-then-declares-2-2 g c =
    let yes = sym c.declares-else-declares.ensures ∙ c.if-declares-2.true in
    let small = local_small c.args.self.now c.args.x.now _ _ c.requires yes c.number_of_name-then-declares-2.ensures in
    omega (arith, small)

pub overflow_cast-result-then-declares-2 : goal.overflow_cast-result-then-declares-2
overflow_cast-result-then-declares-2 g c =
    let yes = sym c.declares-else-declares.ensures ∙ c.if-declares-2.true in
    let small = local_small c.args.self.now c.args.x.now _ _ c.requires yes c.number_of_name-then-declares-2.ensures in
    omega (arith, small)

pub returns-then-declares-2-clause-small : goal.returns-then-declares-2-clause-small
returns-then-declares-2-clause-small g c =
    let yes = sym c.declares-else-declares.ensures ∙ c.if-declares-2.true in
    let small = local_small c.args.self.now c.args.x.now _ _ c.requires yes c.number_of_name-then-declares-2.ensures in
    omega (arith, small)

pub returns-then-declares-2-clause-bit : goal.returns-then-declares-2-clause-bit
returns-then-declares-2-clause-bit g c =
    let no = sym c.declares.ensures ∙ c.if-declares.false in
    let yes = sym c.declares-else-declares.ensures ∙ c.if-declares-2.true in
    local_bit c.args.self.now c.args.x.now _ _ c.as_str-text.ensures.value no yes c.number_of_name-then-declares-2.ensures

-- a global's number, if it is declared
pub returns-then-at-globals-clause-bit : goal.returns-then-at-globals-clause-bit
returns-then-at-globals-clause-bit g c =
    let no = sym c.declares.ensures ∙ c.if-declares.false in
    let none = sym c.declares-else-declares.ensures ∙ c.if-declares-2.false in
    global_inside c.args.self.now c.args.x.now _ _ c.as_str-text.ensures.value no none c.number_of_name-at.ensures c.if-at-globals.true

pub returns-else-at-globals-clause-bit : goal.returns-else-at-globals-clause-bit
returns-else-at-globals-clause-bit g c =
    let no = sym c.declares.ensures ∙ c.if-declares.false in
    let none = sym c.declares-else-declares.ensures ∙ c.if-declares-2.false in
    global_outside c.args.self.now c.args.x.now _ _ c.as_str-text.ensures.value no none c.number_of_name-at.ensures c.if-at-globals.false
