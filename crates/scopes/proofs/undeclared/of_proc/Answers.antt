use Rattle.std.proofs.Common.{subst, ◌++◌, List, sym, ◌∙◌, ap}
use Rattle.language.specs.Tree.{Name}
use Rattle.trees.specs.Trees.{names_of, proc_of, procs_of}
use Rattle.checked.specs.Faults.{AnyOf, IsUndeclaredIn}
use Rattle.scopes.specs.Find.{Finds}
use Rattle.resolved.specs.Statements.{Statement, lent, lent_statements, statement_of, statements_of}
use Rattle.scopes.proofs.Found.{moved}
use Rattle.scopes.proofs.Earliest.{as_found, found_in}
use Rattle.scopes.proofs.undeclared.of_proc.Goals as goal

pub returns : goal.returns
returns g c =
    let all = c.in_ok-all.ensures ∙ ap (λ l. l ++ names_of c.deref.result.now) c.in_ok-own.ensures
    ∙ ap (λ l. ((proc_of c.args.proc.now).formals ++ (proc_of c.args.proc.now).locals) ++ names_of l)
    c.deref.ensures.value in
    moved (λ (ks : List Name) n. AnyOf (λ s. IsUndeclaredIn ks (procs_of c.args.program.now.procs.items) s n)
    (statements_of (proc_of c.args.proc.now).body)) (lent c.in_ok-known.known.names.items) _ c.earliest.result
    (sym (c.in_ok-known.ensures ∙ all))
    (moved (λ (l : List Statement) n. AnyOf (λ s. IsUndeclaredIn (lent c.in_ok-known.known.names.items)
    (procs_of c.args.program.now.procs.items) s n) l) (lent_statements c.in_ok-stmts.stmts.items) _ c.earliest.result
    (sym c.in_ok-stmts.ensures)
    (subst (λ ps. Finds (λ n. AnyOf (λ s. IsUndeclaredIn (lent c.in_ok-known.known.names.items) (procs_of ps) s n)
    (lent_statements c.in_ok-stmts.stmts.items)) c.earliest.result) c.as_slice-procs.ensures.value
    (found_in _ _ (λ s n. IsUndeclaredIn (lent c.in_ok-known.known.names.items)
    (procs_of c.as_slice-procs.result.now) s n)
    (λ r. statement_of r.now) c.in_ok-stmts.stmts.items _ (λ y a k. search as_found)
    (rw c.deref-2.ensures.value at c.earliest.ensures))))
