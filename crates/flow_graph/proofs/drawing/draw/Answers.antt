-- One more graph is that of the next procedure; at the end there is one of each.
use Rattle.std.proofs.Common.{◌≡◌, ◌∷◌, [], length, slice_get, refl, sym, ◌∙◌, ap, subst, arith, length-append}
use Rattle.std.specs.Prelude.{IfOk, codes}
use Rattle.std.proofs.lemmas.Option.{slice_get_read}
use Rattle.std.proofs.lemmas.List.{length-map}
use Rattle.language.specs.Resolve.{meaning_of, number_of}
use Rattle.resolved.proofs.Sequences.{routines_counted, resolving_fit}
use Rattle.trees.specs.Trees.{names_of, tree_of, proc_of}
use Rattle.flow_graph.specs.Drawing.{IsGraphOf}
use Rattle.flow_graph.proofs.DueLemmas.{ordered}
use Rattle.flow_graph.proofs.GraphLemmas.{AllMade, made_more, drawn_graph, has_room}
use Rattle.flow_graph.proofs.drawing.draw.Goals as goal

pub graph-requires : goal.graph-requires
graph-requires g c =
    let proc = c.proc-item.result in
    let is = slice_get_read c.deref-proc-items.result.now _ c.loop-proc.proc-index proc refl c.loop-proc-test.true c.proc-item.is in
    has_room c.args.program.now c.loop-proc.proc-index proc c.requires.narrow
    (ap (λ l. slice_get l c.loop-proc.proc-index) (sym c.deref-proc-items.ensures.value) ∙ is) c.requires.few

pub loop-proc-preserved : goal.loop-proc-preserved
loop-proc-preserved g c =
    let t = c.args.program.now in
    let made = c.in_ok-put.ensures in
    let proc = c.proc-item.result in
    let is = slice_get_read c.deref-proc-items.result.now _ c.loop-proc.proc-index proc refl c.loop-proc-test.true c.proc-item.is in (
      omega (arith, c.loop-proc.invariant.0, ap length made.2, length-append c.loop-proc.graphs.items (made.0 ∷ [])),
      made_more (IsGraphOf t) c.deref-proc-items.result.now c.loop-proc.graphs.items c.put.new.list.items
          c.loop-proc.proc-index proc made.0
          c.loop-proc.invariant.1 c.loop-proc.invariant.0 is
          (subst (λ r. IfOk r (λ g. IsGraphOf t proc g)) made.1 c.graph.ensures) made.2,
    )

pub returns-clause-graphs : goal.returns-clause-graphs
returns-clause-graphs g c =
    let t = c.args.program.now in
    let items = c.deref-proc-items.ensures.value in
    let all = subst (λ l. AllMade (IsGraphOf t) l c.loop-proc.graphs.items) items c.loop-proc.invariant.1 in
    let end : length c.loop-proc.graphs.items ≡ length t.procs.items =
    omega (arith, c.loop-proc.invariant.0, c.loop-proc-test.false, c.loop-proc.auto.proc-index-end, ap length items) in (
      resolving_fit (tree_of t) c.requires.resolves,
      ordered (meaning_of (tree_of t)),
      (
        end ∙ sym (routines_counted (tree_of t) ∙ length-map t.procs.items proc_of),
        λ q graph h.
            let (proc, is, draws) = all q graph h in
            drawn_graph t q proc graph c.requires.resolves c.requires.narrow is draws,
      ),
    )

pub returns-clause-bad : goal.returns-clause-bad
returns-clause-bad g c =
    c.number_of_name-bad.ensures ∙ ap (λ l. number_of (codes "bad__") (names_of l)) c.deref.ensures.value

pub invariant_of-result : goal.invariant_of-result
invariant_of-result g c = record {
  few =
      omega (
        arith,
        c.loop-proc.invariant.0,
        c.loop-proc.auto.proc-index-end,
        ap length c.deref-proc-items.ensures.value,
        c.requires.few,
      );
}
