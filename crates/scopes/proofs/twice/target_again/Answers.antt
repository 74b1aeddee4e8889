use Rattle.std.proofs.Common.{refl, ◌∙◌, ap, sym}
use Rattle.language.specs.Parts.{targets_of}
use Rattle.trees.specs.Trees.{names_of}
use Rattle.trees.specs.Parts.{assigned_by}
use Rattle.scopes.specs.Find.{Finds}
use Rattle.resolved.specs.Statements.{lent, statement_of}
use Rattle.scopes.proofs.Heads.{head_is, repeated_assigned}
use Rattle.scopes.proofs.Found.{same, moved, on_ok}
use Rattle.scopes.proofs.Pushed.{behind_none}
use Rattle.checked.specs.Faults.{Repeated}
use Rattle.scopes.proofs.twice.target_again.Goals as goal

pub returns : goal.returns
returns g c =
    let head = (statement_of c.args.stmt.now).head in
    let targets = ap lent c.deref.ensures.value
    ∙ (behind_none _ names_of c.in_ok-list.ensures c.new.ensures.items refl
    ∙ (c.targets.ensures ∙ sym (ap assigned_by (head_is c.args.stmt.now)))) in
    on_ok (λ o. Finds (Repeated (lent c.deref.result.now)) o)
    (λ o. Finds (λ n. Repeated (targets_of (statement_of c.args.stmt.now).head) n) o) c.repeated.result
    (λ o h. same o (λ n. (repeated_assigned head n).1) (λ n. (repeated_assigned head n).0)
    (moved (λ l n. Repeated l n) (lent c.deref.result.now) (assigned_by head) o (sym targets) h))
    c.repeated.ensures
