use Rattle.std.proofs.Common.{ℕ, sym, ap, ◌∙◌, List}
use Rattle.language.specs.Tree.{Name, Expression}
use Rattle.language.specs.Parts.{arguments_of}
use Rattle.trees.specs.Trees.{expr_of, deed_of}
use Rattle.trees.specs.Parts.{head_of, passed_by, given_by}
use Rattle.resolved.specs.Statements.{lent, variables_of}
use Rattle.checked.specs.Faults.{AnyOf, AnyUnknown}
use Rattle.scopes.specs.Find.{as_list}
use Rattle.scopes.proofs.Heads.{head_is, arguments_are}
use Rattle.scopes.proofs.Earliest.{as_found, found_in}
use Rattle.scopes.proofs.Found.{moved, in_both_of}
use Rattle.scopes.proofs.undeclared.in_arguments.Goals as goal

pub returns : goal.returns
returns g c =
    let known = lent c.args.known.now.names.items in
    let unknown = λ (e : Expression Name) (n : ℕ). AnyUnknown known (variables_of e) n in
    let head = head_of (deed_of c.args.stmt.now.core) in
    in_both_of unknown (passed_by head) (as_list (given_by head)) _ c.earliest-passed.result c.in_given-given.result
    c.earlier.result c.earlier.ensures (ap arguments_of (head_is c.args.stmt.now) ∙ arguments_are head)
    (moved (λ (l : List (Expression Name)) n. AnyOf (λ e. unknown e n) l) _ _ _ (sym c.arguments.ensures)
    (found_in _ _ unknown expr_of c.arguments.result.now _ (λ y a k. search as_found) c.earliest-passed.ensures))
    (moved (λ o n. AnyOf (λ e. unknown e n) (as_list o)) _ _ _ (sym c.given.ensures) c.in_given-given.ensures)
