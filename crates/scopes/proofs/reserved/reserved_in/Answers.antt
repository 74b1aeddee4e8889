use Rattle.std.proofs.Common.{List, sym, ◌∙◌, ap}
use Rattle.language.specs.Tree.{Name}
use Rattle.resolved.specs.Statements.{lent, lent_statements, labels_of}
use Rattle.checked.specs.Faults.{IsReserved}
use Rattle.scopes.proofs.Found.{moved, both_of}
use Rattle.scopes.proofs.reserved.reserved_in.Goals as goal

pub returns : goal.returns
returns g c =
    both_of c.reserved-first.result c.reserved-second.result c.earlier.result c.earlier.ensures
    (moved (λ (l : List Name) n. IsReserved l n) (lent c.in_ok-own.own.items) _ c.reserved-first.result
    (sym c.in_ok-own.ensures)
    (rw c.deref.ensures.value at c.reserved-first.ensures))
    (moved (λ (l : List Name) n. IsReserved l n) (lent c.in_ok-labels.labels.items) _ c.reserved-second.result
    (sym (c.in_ok-labels.ensures ∙ ap (λ l. labels_of (lent_statements l)) c.deref-2.ensures.value
    ∙ ap labels_of c.in_ok-stmts.ensures))
    (rw c.deref-3.ensures.value at c.reserved-second.ensures))
