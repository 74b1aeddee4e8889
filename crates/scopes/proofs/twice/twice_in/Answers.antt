use Rattle.std.proofs.Common.{rules, List, sym}
use Rattle.language.specs.Tree.{Name}
use Rattle.checked.specs.Faults.{AnyOf, Repeated}
use Rattle.resolved.specs.Statements.{Statement, lent, lent_statements, statement_of}
use Rattle.language.specs.Parts.{targets_of}
use Rattle.scopes.proofs.Earliest.{found_at_ok}
use Rattle.scopes.proofs.Found.{moved, both_of}
use Rattle.scopes.proofs.twice.twice_in.Goals as goal

pub returns : goal.returns
returns g c =
    both_of c.in_ok-first.first c.in_ok-second.second c.earlier.result c.earlier.ensures
    (moved (λ (l : List Name) n. Repeated l n) (lent c.in_ok-own.own.items) _ c.in_ok-first.first
    (sym c.in_ok-own.ensures)
    (rw c.deref.ensures.value at c.in_ok-first.ensures))
    (moved (λ (l : List Statement) n. AnyOf (λ s. Repeated (targets_of s.head) n) l)
    (lent_statements c.in_ok-stmts.stmts.items) _ c.in_ok-second.second (sym c.in_ok-stmts.ensures)
    (found_at_ok _ _ (λ s n. Repeated (targets_of s.head) n) (λ r. statement_of r.now) c.in_ok-stmts.stmts.items _
    (λ y a k. search rules) (rw c.deref-2.ensures.value at c.in_ok-second.ensures)))
