use Rattle.std.proofs.Common.{◌≡◌, List, sym, ◌∙◌, ap}
use Rattle.std.specs.Prelude.{slice_get}
use Rattle.trees.specs.Trees.{procs_of}
use Rattle.resolved.specs.Statements.{Statement, lent_statements, statements_of_all}
use Rattle.resolved.specs.There.{IsThere}
use Rattle.checked.specs.Limits.{most_statements}
use Rattle.scopes.proofs.Found.{moved, in_three}
use Rattle.scopes.proofs.limits.first_too_many.Goals as goal

pub returns : goal.returns
returns g c =
    in_three c.procedure_too_many-first.result c.thread_too_many-second.result c.statement_too_many-third.result
    c.earlier-later.result c.earlier.result c.earlier.ensures c.earlier-later.ensures
    (rw c.deref-2.ensures.value at c.procedure_too_many-first.ensures)
    (rw c.deref-3.ensures.value at c.thread_too_many-second.ensures)
    (moved (λ (l : List Statement) n. IsThere (slice_get l most_statements) (λ s. s.mark.at ≡ n))
    (lent_statements c.in_ok-stmts.stmts.items) _ c.statement_too_many-third.result
    (sym (c.in_ok-stmts.ensures ∙ ap (λ l. statements_of_all (procs_of l)) c.deref.ensures.value))
    (rw c.deref-4.ensures.value at c.statement_too_many-third.ensures))
