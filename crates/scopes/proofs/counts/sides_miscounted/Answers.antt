use Rattle.std.proofs.Common.{◌∙◌, length, ap, sym}
use Rattle.std.proofs.lemmas.List.{length-map}
use Rattle.language.specs.Parts.{assigns, targets_of, sides_of}
use Rattle.trees.specs.Trees.{name_of, rhs_of}
use Rattle.trees.specs.Parts.{assigned_by}
use Rattle.resolved.specs.Statements.{statement_of}
use Rattle.checked.specs.Faults.{first_at}
use Rattle.trees.proofs.ByKind.{targets_assigned}
use Rattle.scopes.proofs.Heads.{head_is, at_is}
use Rattle.scopes.proofs.Found.{same, nowhere, compared}
use Rattle.scopes.proofs.counts.sides_miscounted.Goals as goal

pub returns-then-assigns : goal.returns-then-assigns
returns-then-assigns g c =
    let statement = statement_of c.args.stmt.now in
    let is = ap assigns (head_is c.args.stmt.now) ∙ sym c.assigns.ensures ∙ c.if-assigns.true in
    let targets = targets_assigned statement.head is ∙ ap assigned_by (head_is c.args.stmt.now) ∙ sym c.targets-targets.ensures in
    let sides = ap sides_of (head_is c.args.stmt.now) ∙ sym c.sides-sides.ensures in
    same c.unequal.result (λ n h. (is, h.0, h.1)) (λ n h. (h.1, h.2))
    (compared c.start.result (first_at statement.mark.at (targets_of statement.head))
    (length c.targets-targets.result.now) (length (targets_of statement.head))
    (length c.sides-sides.result.now) (length (sides_of statement.head)) c.unequal.result
    (ap (λ m. first_at m (targets_of statement.head)) (at_is c.args.stmt.now)
    ∙ ap (first_at c.args.stmt.now.at) targets ∙ sym c.start.ensures)
    (ap length targets ∙ length-map c.targets-targets.result.now name_of)
    (ap length sides ∙ length-map c.sides-sides.result.now rhs_of)
    c.unequal.ensures)

pub returns-else-assigns : goal.returns-else-assigns
returns-else-assigns g c =
    nowhere (λ n h. let other = ap assigns (head_is c.args.stmt.now) ∙ sym c.assigns.ensures ∙ c.if-assigns.false in
    let is = h.0 in absurd (cc))
