use Rattle.std.proofs.Common.{◌++◌, sym, ◌∙◌, ap, append-nil, option_map, arith}
use Rattle.std.proofs.lemmas.List.{map-append}
use Rattle.trees.specs.Trees.{name_of}
use Rattle.resolved.specs.Statements.{lent, label_of}
use Rattle.scopes.proofs.Pushed.{labelled, all_labelled}
use Rattle.scopes.proofs.labels.labels.Goals as goal
use Rattle.scopes.proofs.labels.labels.Goals.{in-Some+in_ok-push, in_default}

pub returns : goal.returns
returns g c = all_labelled c.args.stmts.now c.loop-stmt.stmt-index (lent c.loop-stmt.list.items) _ (omega arith) c.loop-stmt.invariant

pub loop-stmt-preserved : goal.loop-stmt-preserved
loop-stmt-preserved g c =
    labelled c.args.stmts.now c.loop-stmt.stmt-index c.stmt-item.result (lent c.loop-stmt.list.items)
    (lent c.match-stmt.list.items) _ c.loop-stmt-test.true c.stmt-item.is
    (elim c.match-stmt.branch [
      | in-Some+in_ok-push w ↦
          ap (λ v. lent v.items) w.list-is
          ∙ (ap lent w.in_ok-push.ensures.items
          ∙ (map-append (λ r. name_of r.now) c.loop-stmt.list.items _
          ∙ ap (λ o. lent c.loop-stmt.list.items ++ label_of (option_map name_of o)) (sym w.in-Some.is)))
      | in_default w ↦
          ap (λ v. lent v.items) w.list-is
          ∙ (sym (append-nil (lent c.loop-stmt.list.items))
          ∙ ap (λ o. lent c.loop-stmt.list.items ++ label_of (option_map name_of o)) (sym w.in_default.is))
    ])
    c.loop-stmt.invariant
