-- The names of the lists are looked at in turn.
use Rattle.std.proofs.Common.{◌≡◌, ◌∙◌, ◌≤◌, ap, sym, arith, length}
use Rattle.std.specs.Prelude.{find}
use Rattle.std.proofs.Math.ListN.{drop_of_length-le}
use Rattle.fault_details.specs.Visible.{declared, is_like}
use Rattle.fault_details.proofs.Declared.{at_list, none_declared, past_list}
use Rattle.fault_details.proofs.visible.first_declared.Goals as goal

pub returns-then-is_some : goal.returns-then-is_some
returns-then-is_some c =
    at_list (is_like c.args.word.now) c.args.tokens.now c.loop-i.i (omega arith) c.listed.result.now c.first_like-found.result
    c.listed.ensures c.first_like-found.ensures (sym c.is_some.ensures ∙ c.if-is_some.true) ∙ c.loop-i.invariant

pub loop-i-preserved : goal.loop-i-preserved
loop-i-preserved c =
    past_list (is_like c.args.word.now) c.args.tokens.now c.loop-i.i (omega arith) c.listed.result.now c.first_like-found.result
    c.listed.ensures c.first_like-found.ensures (sym c.is_some.ensures ∙ c.if-is_some.false) ∙ c.loop-i.invariant

pub returns : goal.returns
returns c =
    let p = is_like c.args.word.now in
    let ts = c.args.tokens.now in
    let past : length ts ≤ c.loop-i.i = omega arith in
    sym (ap (find p) none_declared) ∙ sym (ap (λ l. find p (declared l)) (drop_of_length-le ts past)) ∙ c.loop-i.invariant
