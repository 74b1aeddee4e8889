-- The bit is compared with those of the later targets, one after the other.
use Rattle.std.proofs.Common.{true, false, map, sym, ◌∙◌, ap}
use Rattle.std.proofs.lemmas.List.{drop_all}
use Rattle.trees.specs.Trees.{names_of}
use Rattle.flow_graph.specs.Assignments.{is_among, is_bit, lasting}
use Rattle.flow_graph.specs.Located.{bit_of_name}
use Rattle.flow_graph.specs.Views.{scope_seen}
use Rattle.flow_graph.proofs.Later.{same_bit, among_next, lasts}
use Rattle.flow_graph.proofs.scope.Scope.lasting.Goals as goal

pub returns-in_err-bit-clause-bit : goal.returns-in_err-bit-clause-bit
returns-in_err-bit-clause-bit g c =
    let later = map (bit_of_name (scope_seen c.args.self.now)) (names_of c.args.later.now) in
    c.from_residual.ensures ∙ ap (λ o. lasting o later) (sym c.in_err-bit.was ∙ c.bit.ensures.bit)

pub returns-then-eq-clause-bit : goal.returns-then-eq-clause-bit
returns-then-eq-clause-bit g c =
    let s = scope_seen c.args.self.now in
    let b = c.in_ok-bit.bit in
    let same = sym (same_bit b c.bit-in-loop-other.result) ∙ sym c.eq.ensures ∙ c.if-eq.true in
    let next = among_next s c.args.later.now b c.loop-other.other-index c.other-item.result true
    c.loop-other-test.true c.other-item.is (ap (is_bit b) (sym c.bit-in-loop-other.ensures.bit) ∙ same) in
    sym (lasts b _ _ true (sym c.bit.ensures.bit ∙ c.in_ok-bit.was) (sym c.loop-other.invariant ∙ next))

pub loop-other-preserved : goal.loop-other-preserved
loop-other-preserved g c =
    let s = scope_seen c.args.self.now in
    let b = c.in_ok-bit.bit in
    let other = sym (same_bit b c.bit-in-loop-other.result) ∙ sym c.eq.ensures ∙ c.if-eq.false in
    let next = among_next s c.args.later.now b c.loop-other.other-index c.other-item.result false
    c.loop-other-test.true c.other-item.is (ap (is_bit b) (sym c.bit-in-loop-other.ensures.bit) ∙ other) in
    sym next ∙ c.loop-other.invariant

pub returns-clause-bit : goal.returns-clause-bit
returns-clause-bit g c =
    let s = scope_seen c.args.self.now in
    let b = c.in_ok-bit.bit in
    let none = ap (λ l. is_among b (map (bit_of_name s) (names_of l)))
    (drop_all c.loop-other.other-index c.args.later.now c.loop-other-test.false) in
    sym (lasts b _ _ false (sym c.bit.ensures.bit ∙ c.in_ok-bit.was) (sym c.loop-other.invariant ∙ none))
