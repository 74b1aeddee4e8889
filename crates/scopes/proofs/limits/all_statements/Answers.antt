use Rattle.std.proofs.Common.{arith, ap, ◌∙◌, ◌++◌}
use Rattle.trees.specs.Trees.{block_of}
use Rattle.resolved.specs.Statements.{lent_statements, statements_of}
use Rattle.scopes.proofs.Flat.{one_procedure}
use Rattle.scopes.proofs.limits.all_statements.Goals as goal

pub loop-proc-preserved : goal.loop-proc-preserved
loop-proc-preserved g c =
    one_procedure c.args.procs.now c.loop-proc.proc-index c.proc-item.result (lent_statements c.loop-proc.list.items)
    (lent_statements c.in_ok-list.list.items) _ (omega arith) c.proc-item.is c.loop-proc.invariant
    (c.in_ok-list.ensures ∙ ap (λ l. lent_statements c.loop-proc.list.items ++ statements_of (block_of l)) c.deref.ensures.value)
