use Rattle.std.proofs.Common.{◌≡◌, List, sym, ◌∙◌, ap}
use Rattle.language.specs.Tree.{Name}
use Rattle.trees.specs.Trees.{proc_of}
use Rattle.checked.specs.Faults.{AnyOf, GoesNowhere, Repeated}
use Rattle.resolved.specs.Statements.{Statement, lent, lent_statements, statement_of, statements_of, labels_of}
use Rattle.scopes.proofs.Found.{moved, both_of}
use Rattle.scopes.proofs.Earliest.{as_found, found_in}
use Rattle.scopes.proofs.labels.mislabelled.Goals as goal

pub returns : goal.returns
returns g c =
    let stmts : lent_statements c.in_ok-stmts.stmts.items ≡ statements_of
    (proc_of c.args.proc.now).body = c.in_ok-stmts.ensures in
    let labels : lent c.in_ok-labels.labels.items ≡ labels_of (statements_of (proc_of c.args.proc.now).body) =
    c.in_ok-labels.ensures ∙ ap (λ l. labels_of (lent_statements l)) c.deref.ensures.value ∙ ap labels_of stmts in
    both_of c.earliest-first.result c.in_ok-second.second c.earlier.result c.earlier.ensures
    (moved (λ (l : List Name) n. AnyOf (λ (s : Statement). GoesNowhere l n s.head)
    (statements_of (proc_of c.args.proc.now).body))
    (lent c.in_ok-known.known.names.items) _ c.earliest-first.result (sym (c.in_ok-known.ensures ∙ labels))
    (moved (λ (l : List Statement) n. AnyOf
    (λ (s : Statement). GoesNowhere (lent c.in_ok-known.known.names.items) n s.head) l)
    (lent_statements c.in_ok-stmts.stmts.items) _ c.earliest-first.result (sym stmts)
    (found_in _ _ (λ (s : Statement) n. GoesNowhere (lent c.in_ok-known.known.names.items) n s.head)
    (λ r. statement_of r.now)
    c.in_ok-stmts.stmts.items _ (λ y a k. search as_found) (rw c.deref-3.ensures.value at c.earliest-first.ensures))))
    (moved (λ (l : List Name) n. Repeated l n) (lent c.in_ok-labels.labels.items) _ c.in_ok-second.second (sym labels)
    (rw c.deref-2.ensures.value at c.in_ok-second.ensures))
