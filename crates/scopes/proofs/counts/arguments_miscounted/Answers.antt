use Rattle.std.proofs.Common.{◌≡◌, ◌≢◌, Option, Some, ◌∙◌, length, ap, sym, refl, arith}
use Rattle.std.proofs.lemmas.List.{length-map}
use Rattle.language.specs.Tree.{Name, Procedure}
use Rattle.language.specs.Parts.{arguments_of, callee_of}
use Rattle.trees.specs.Trees.{name_of, expr_of, procs_of, proc_of}
use Rattle.trees.specs.Parts.{passed_by}
use Rattle.resolved.specs.There.{IsThere}
use Rattle.resolved.specs.Statements.{statement_of}
use Rattle.checked.specs.Faults.{named}
use Rattle.trees.proofs.ByKind.{arguments_passed}
use Rattle.scopes.proofs.Heads.{head_is}
use Rattle.scopes.proofs.Found.{moved, compared}
use Rattle.scopes.proofs.counts.arguments_miscounted.Goals as goal

pub returns : goal.returns
returns g c =
    let head = (statement_of c.args.stmt.now).head in
    let callee = c.in_ok-callee.callee.now in
    let formals = c.in_ok-proc.proc.now.formals.items in
    let callee_is = ap callee_of (head_is c.args.stmt.now) ∙ sym c.in_ok-callee.ensures in
    let arguments = arguments_passed head (name_of callee) callee_is ∙ ap passed_by (head_is c.args.stmt.now)
    ∙ sym c.arguments.ensures in
    moved (λ (o : Option Name) n. IsThere o (λ q. (q.at ≡ n)
    × IsThere (named q.text (procs_of c.args.procs.now)) (λ (p : Procedure). length p.formals ≢ length (arguments_of head))))
    (Some (name_of callee)) _ _ callee_is
    (moved (λ (o : Option Procedure) n. (callee.at ≡ n) × IsThere o (λ p. length p.formals ≢ length (arguments_of head)))
    (Some (proc_of c.in_ok-proc.proc.now)) _ _ (sym c.in_ok-proc.ensures)
    (compared callee.at _ c.len.result _ (length c.arguments.result.now) _ c.unequal.result refl
    (length-map formals name_of ∙ (let e : length formals ≡ c.len.result = omega (arith, c.len.ensures) in e))
    (ap length arguments ∙ length-map c.arguments.result.now expr_of)
    c.unequal.ensures))
