use Rattle.std.proofs.Common.{sym, ◌∙◌, ap}
use Rattle.std.proofs.lemmas.List.{drop_all}
use Rattle.trees.specs.Trees.{name_of, procs_of}
use Rattle.checked.specs.Faults.{named}
use Rattle.scopes.proofs.Pushed.{named_here, named_later}
use Rattle.scopes.proofs.undeclared.find.Goals as goal

pub returns : goal.returns
returns g c =
    sym
    (c.loop-proc.invariant
    ∙ ap (λ l. named (name_of c.args.x.now).text (procs_of l))
    (drop_all c.loop-proc.proc-index c.args.procs.now c.loop-proc-test.false))

pub loop-proc-preserved : goal.loop-proc-preserved
loop-proc-preserved g c =
    named_later
    (name_of c.args.x.now).text c.args.procs.now c.loop-proc.proc-index c.proc-item.result _ c.loop-proc-test.true c.proc-item.is
    c.loop-proc.invariant (sym c.is_same.ensures ∙ c.if-is_same.false)

pub returns-then-is_same : goal.returns-then-is_same
returns-then-is_same g c =
    sym
    (named_here
    (name_of c.args.x.now).text c.args.procs.now c.loop-proc.proc-index c.proc-item.result _ c.loop-proc-test.true c.proc-item.is
    c.loop-proc.invariant (sym c.is_same.ensures ∙ c.if-is_same.true))
