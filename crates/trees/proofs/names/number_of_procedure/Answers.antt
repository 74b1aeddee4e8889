use Rattle.std.proofs.Common.{refl, ◌∙◌, sym, arith}
use Rattle.trees.proofs.Counting.{counted_on, counted_at, all_counted}
use Rattle.std.proofs.Common.{List, map}
use Rattle.language.specs.Tree.{Procedure}
use Rattle.trees.specs.declared.tree.Proc.{Proc}
use Rattle.trees.specs.Trees.{proc_of, procs_of}
use Rattle.trees.proofs.names.number_of_procedure.Goals as goal

pub loop-proc-preserved : goal.loop-proc-preserved
loop-proc-preserved g c = (
  omega (arith, c.loop-proc.invariant.0),
  counted_on (λ (p : Proc g.row.N.Denot). (proc_of p).name)
      (λ (l : List (Proc g.row.N.Denot)). map (λ (p : Procedure). p.name) (procs_of l))
      (λ x xs. refl) refl c.args.text.now c.args.procs.now c.loop-proc.proc-index c.loop-proc.before _ c.proc-item.result
      c.loop-proc-test.true c.proc-item.is
      (rw c.as_str.ensures.value at (sym c.eq.ensures ∙ c.if-eq.false)) c.loop-proc.invariant.1,
)

pub returns : goal.returns
returns g c =
    all_counted (λ (p : Proc g.row.N.Denot). (proc_of p).name)
    (λ (l : List (Proc g.row.N.Denot)). map (λ (p : Procedure). p.name) (procs_of l))
    (λ x xs. refl) refl c.args.text.now c.args.procs.now c.loop-proc.proc-index c.loop-proc.before _ c.loop-proc-test.false
    c.loop-proc.invariant.1

pub returns-then-eq : goal.returns-then-eq
returns-then-eq g c =
    counted_at (λ (p : Proc g.row.N.Denot). (proc_of p).name)
    (λ (l : List (Proc g.row.N.Denot)). map (λ (p : Procedure). p.name) (procs_of l))
    (λ x xs. refl) refl c.args.text.now c.args.procs.now c.loop-proc.proc-index c.loop-proc.before _ c.proc-item.result
    c.loop-proc-test.true c.proc-item.is
    (rw c.as_str.ensures.value at (sym c.eq.ensures ∙ c.if-eq.true)) c.loop-proc.invariant.1
