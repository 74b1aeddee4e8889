use Rattle.std.proofs.Common.{List, sym}
use Rattle.trees.specs.Trees.{procs_of}
use Rattle.checked.specs.Faults.{AnyOf, Miscounts}
use Rattle.resolved.specs.Statements.{Statement, lent_statements, statement_of}
use Rattle.scopes.proofs.Found.{moved}
use Rattle.scopes.proofs.Earliest.{as_found, found_in}
use Rattle.scopes.proofs.counts.miscounted_in.Goals as goal

pub returns : goal.returns
returns g c =
    moved (λ (l : List Statement) n. AnyOf (Miscounts (procs_of c.args.procs.now) n) l)
    (lent_statements c.in_ok-stmts.stmts.items) _ c.earliest.result (sym c.in_ok-stmts.ensures)
    (found_in _ _ (λ s n. Miscounts (procs_of c.args.procs.now) n s)
    (λ r. statement_of r.now) c.in_ok-stmts.stmts.items _
    (λ y a k. search as_found) (rw c.deref.ensures.value at c.earliest.ensures))
