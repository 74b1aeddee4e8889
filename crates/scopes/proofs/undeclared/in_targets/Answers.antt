use Rattle.std.proofs.Common.{ℕ, sym, ap, ◌∙◌}
use Rattle.language.specs.Tree.{Name}
use Rattle.language.specs.Parts.{targets_of}
use Rattle.trees.specs.Trees.{name_of, deed_of}
use Rattle.trees.specs.Parts.{head_of, assigned_by, receiver_of}
use Rattle.resolved.specs.Statements.{lent}
use Rattle.scopes.specs.Find.{as_list}
use Rattle.checked.specs.Faults.{IsUnknown, AnyUnknown}
use Rattle.scopes.proofs.Heads.{head_is, targets_are}
use Rattle.scopes.proofs.Earliest.{as_found, found_in}
use Rattle.scopes.proofs.Found.{moved, in_both_of}
use Rattle.scopes.proofs.undeclared.in_targets.Goals as goal

pub returns : goal.returns
returns g c =
    let known = lent c.args.known.now.names.items in
    let unknown = λ (x : Name) (n : ℕ). IsUnknown known n x in
    let head = head_of (deed_of c.args.stmt.now.core) in
    in_both_of unknown (assigned_by head) (as_list (receiver_of head)) _ c.earliest-assigned.result c.in_receiver-receiver.result
    c.earlier.result c.earlier.ensures (ap targets_of (head_is c.args.stmt.now) ∙ targets_are head)
    (moved (λ l n. AnyUnknown known l n) _ _ _ (sym c.targets.ensures)
    (found_in _ _ unknown name_of c.targets.result.now _ (λ y a k. search as_found) c.earliest-assigned.ensures))
    (moved (λ o n. AnyUnknown known (as_list o) n) _ _ _ (sym c.receiver.ensures) c.in_receiver-receiver.ensures)
