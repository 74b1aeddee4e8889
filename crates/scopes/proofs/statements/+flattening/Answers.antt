use Rattle.std.proofs.Common.{arith, ◌++◌, ◌∙◌, ap, refl}
use Rattle.std.proofs.lemmas.List.{map-append}
use Rattle.std.proofs.lemmas.Result.{IfOk-weaker}
use Rattle.trees.specs.Trees.{deed_of}
use Rattle.trees.specs.Parts.{first_inside, second_inside}
use Rattle.resolved.specs.Statements.{lent_statements, statement_of, statements_of, inside}
use Rattle.scopes.proofs.Flat.{less_inside, one_more, no_more, after_two}
use Rattle.scopes.proofs.statements.+flattening.Goals as goal

pub flatten-flatten_one-requires : goal.flatten-flatten_one-requires
flatten-flatten_one-requires g t c κs within = (
  rw (← c.decreases) (less_inside c.args.stmts.now c.loop-stmt.stmt-index c.stmt-item.result c.loop-stmt-test.true c.stmt-item.is),
  within,
)

pub flatten-loop-stmt-preserved : goal.flatten-loop-stmt-preserved
flatten-loop-stmt-preserved g t c =
    one_more c.args.stmts.now c.loop-stmt.stmt-index c.stmt-item.result (lent_statements c.loop-stmt.list.items)
    (lent_statements c.in_ok-list.list.items) _ (omega arith) c.stmt-item.is c.loop-stmt.invariant c.in_ok-list.ensures

pub flatten-returns : goal.flatten-returns
flatten-returns g t c =
    no_more c.args.stmts.now c.loop-stmt.stmt-index (lent_statements c.loop-stmt.list.items) _ (omega arith) c.loop-stmt.invariant

pub flatten_one-returns : goal.flatten_one-returns
flatten_one-returns g t c =
    let old = lent_statements c.args.into.items in
    let pushed = lent_statements c.push.new.self.items in
    let first = lent_statements c.in_ok-list.list.items in
    let deed = deed_of c.args.stmt.now.core in
    IfOk-weaker c.flatten-2.result _ _
    (λ v two. after_two old pushed first (lent_statements v.items) (statement_of c.args.stmt.now) (inside deed)
    (statements_of (first_inside deed)) (statements_of (second_inside deed))
    (ap lent_statements c.in_ok-push.ensures.items ∙ map-append _ _ _)
    (c.in_ok-list.ensures ∙ ap (λ b. pushed ++ statements_of b) c.inside.ensures.first)
    (two ∙ ap (λ b. first ++ statements_of b) c.inside.ensures.second) refl)
    c.flatten-2.ensures
