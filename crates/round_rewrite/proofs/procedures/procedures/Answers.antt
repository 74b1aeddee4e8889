use Rattle.std.proofs.Common.{◌≡◌, ◌+◌, ◌<◌, ◌≤◌, ◌∙◌, ap, sym, refl, arith, [], ◌∷◌, ◌++◌, map, drop, append-nil}
use Rattle.std.proofs.lemmas.List.{drop_more, drop_all}
use Rattle.trees.specs.Trees.{proc_of, procs_of, tree_of}
use Rattle.round_rewrite.specs.Names.{main_procedure, rewritten_procedure}
use Rattle.round_rewrite.specs.Writing.{AreFew}
use Rattle.round_rewrite.proofs.PushLemmas.{put_is, one_through}
use Rattle.round_rewrite.proofs.procedures.procedures.Goals as goal

pub procedure-requires : goal.procedure-requires
procedure-requires g c =
    let here = drop_more c.deref-proc-items.result.now c.loop-proc.proc-index c.proc-item.result c.loop-proc-test.true
    ∙ ap (λ y. y ∷ drop (c.loop-proc.proc-index + 1) c.deref-proc-items.result.now) (sym c.proc-item.is) in
    (Rattle.std.proofs.Common.subst (λ l. AreFew (procs_of l)) here c.loop-proc.invariant.1).0

pub loop-proc-init : goal.loop-proc-init
loop-proc-init g c =
    let others = map (rewritten_procedure c.args.rounds.last) (procs_of c.deref-proc-items.result.now) in
    let one = put_is proc_of c.first.result _ _ _ c.in_ok-put_made.ensures c.first.ensures in (
      ap (λ l. procs_of l ++ others) (one.1 ∙ ap (λ l. l ++ one.0 ∷ []) c.new-list.ensures.items)
          ∙ ap (λ p. p ∷ others) one.2,
      Rattle.std.proofs.Common.subst (λ l. AreFew (procs_of l)) (sym c.deref-proc-items.ensures.value) c.requires,
    )

pub loop-proc-preserved : goal.loop-proc-preserved
loop-proc-preserved g c =
    let f = rewritten_procedure c.args.rounds.last in
    let one = put_is proc_of c.procedure.result _ _ _ c.in_ok-put_made-2.ensures c.procedure.ensures in
    let here = drop_more c.deref-proc-items.result.now c.loop-proc.proc-index c.proc-item.result c.loop-proc-test.true
    ∙ ap (λ y. y ∷ drop (c.loop-proc.proc-index + 1) c.deref-proc-items.result.now) (sym c.proc-item.is) in (
      ap
          (λ l. procs_of l ++ map f (procs_of (drop (c.loop-proc.proc-index + 1) c.deref-proc-items.result.now)))
          one.1
          ∙ one_through proc_of f proc_of c.loop-proc.list.items one.0 c.deref-proc-items.result.now
          c.loop-proc.proc-index c.proc-item.result _ c.loop-proc-test.true c.proc-item.is one.2
          c.loop-proc.invariant.0,
      (Rattle.std.proofs.Common.subst (λ l. AreFew (procs_of l)) here c.loop-proc.invariant.1).1,
    )

pub returns : goal.returns
returns g c =
    let f = rewritten_procedure c.args.rounds.last in
    let all = c.deref-proc-items.result.now in
    sym (append-nil (procs_of c.loop-proc.list.items))
    ∙ (sym (ap (λ l. procs_of c.loop-proc.list.items ++ map f (procs_of l)) (drop_all c.loop-proc.proc-index all c.loop-proc-test.false))
    ∙ (c.loop-proc.invariant.0
    ∙ ap (λ l. main_procedure c.args.rounds.last (tree_of c.args.program.now) ∷ map f (procs_of l)) c.deref-proc-items.ensures.value))
