-- The one write is of no `?`.
use Rattle.std.proofs.Common.{◌≡◌, ◌^◌, ◌+◌, ◌++◌, ◌∷◌, [], sym, subst, ap, ◌∙◌}
use Rattle.std.specs.Prelude.{IfOk}
use Rattle.language.specs.Tree.{value}
use Rattle.trees.specs.Trees.{expr_of}
use Rattle.flow_graph.specs.Assignments.{anys}
use Rattle.flow_graph.specs.Formulas.{SaysSide}
use Rattle.flow_graph.specs.Joint.{IsFormOf}
use Rattle.flow_graph.specs.Views.{scope_seen}
use Rattle.flow_graph.proofs.Assignments.{any_same}
use Rattle.flow_graph.proofs.scope.Scope.assignment_of_value.Goals as goal

pub invariant_of-result : goal.invariant_of-result
invariant_of-result g c =
    let s = scope_seen c.args.self.now in
    let e = value (expr_of c.args.e.now) in
    let made = c.in_ok-put.ensures in
    let write = made.0 in
    let says = subst (λ r. IfOk r (λ w. (w.mask ≡ c.args.mask) × SaysSide w.side s e)) made.1 c.write_value.ensures in
    let items = made.2 ∙ ap (λ l. l ++ write ∷ []) c.new-writes.ensures.items in
    record {
      numbered = sym (ap (λ l. 2 ^ anys l) items ∙ ap (λ n. 2 ^ (n + 0)) (any_same s write.side e says.1));
      formed = subst (IsFormOf c.in_ok-form.form) c.as_slice.ensures.value c.in_ok-form.ensures;
    }
