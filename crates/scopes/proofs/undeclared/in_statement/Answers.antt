use Rattle.std.proofs.Common.{ℕ, ◌++◌, sym, refl}
use Rattle.trees.specs.Trees.{rhs_of, rhss_of, deed_of}
use Rattle.trees.specs.Parts.{head_of}
use Rattle.language.specs.Tree.{Name}
use Rattle.language.specs.Parts.{targets_of, sides_of, test_of, arguments_of}
use Rattle.resolved.specs.Statements.{lent, used_by, variables_of, variables_of_all, variables_of_side}
use Rattle.resolved.specs.Statements.{variables_of_sides, variables_of_test}
use Rattle.checked.specs.Faults.{AnyOf, IsUnknown, AnyUnknown}
use Rattle.scopes.proofs.Heads.{head_is}
use Rattle.scopes.proofs.Earliest.{as_found, found_in, flat}
use Rattle.scopes.proofs.Found.{moved, in_both_of}
use Rattle.scopes.proofs.undeclared.in_statement.Goals as goal

pub returns : goal.returns
returns g c =
    let known = lent c.args.known.now.names.items in
    let unknown = λ (x : Name) (n : ℕ). IsUnknown known n x in
    let head = head_of (deed_of c.args.stmt.now.core) in
    let of_arguments = variables_of_all (arguments_of head) in
    let of_tested = variables_of_test (test_of head) ++ of_arguments in
    let of_read = variables_of_sides (sides_of head) ++ of_tested in
    moved (λ h n. AnyUnknown known (used_by h) n) _ _ _ (head_is c.args.stmt.now)
    (in_both_of unknown (targets_of head) of_read _ c.in_targets-targets.result c.earlier-read.result c.earlier.result
    c.earlier.ensures refl
    (moved (λ h n. AnyUnknown known (targets_of h) n) _ _ _ (sym (head_is c.args.stmt.now)) c.in_targets-targets.ensures)
    (in_both_of unknown (variables_of_sides (sides_of head)) of_tested _
    c.earliest-sides.result c.earlier-tested.result c.earlier-read.result c.earlier-read.ensures refl
    (moved (λ l n. AnyUnknown known (variables_of_sides l) n) _ _ _ (sym c.sides.ensures)
    (flat unknown variables_of_sides variables_of_side (rhss_of c.sides.result.now) _ refl (λ r rs. refl)
    (found_in _ _ (λ r n. AnyUnknown known (variables_of_side r) n) rhs_of c.sides.result.now _
    (λ y a k. search as_found) c.earliest-sides.ensures)))
    (in_both_of unknown (variables_of_test (test_of head)) of_arguments _ c.in_test-test.result c.in_arguments-arguments.result
    c.earlier-tested.result c.earlier-tested.ensures refl
    (moved (λ o n. AnyUnknown known (variables_of_test o) n) _ _ _ (sym c.test.ensures) c.in_test-test.ensures)
    (flat unknown variables_of_all variables_of (arguments_of head) _ refl (λ e es. refl)
    (moved (λ h n. AnyOf (λ e. AnyUnknown known (variables_of e) n) (arguments_of h)) _ _ _ (sym (head_is c.args.stmt.now))
    c.in_arguments-arguments.ensures)))))
