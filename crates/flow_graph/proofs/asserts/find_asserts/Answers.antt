-- One more is that of the next procedure; at the end there is one of each.
use Rattle.std.proofs.Common.{◌∷◌, [], length, slice_get, refl, sym, ◌∙◌, ap, subst, arith, length-append}
use Rattle.std.specs.Prelude.{IfOk}
use Rattle.std.proofs.lemmas.Option.{slice_get_read}
use Rattle.flow_graph.specs.Drawing.{AreAssertsIn}
use Rattle.flow_graph.proofs.AssertLemmas.{all_tell}
use Rattle.flow_graph.proofs.GraphLemmas.{AllMade, made_more, has_room}
use Rattle.flow_graph.proofs.asserts.find_asserts.Goals as goal

pub procedure_asserts-requires : goal.procedure_asserts-requires
procedure_asserts-requires g c =
    let t = c.args.program.now in
    let proc = c.proc-item.result in
    let is = slice_get_read c.deref-proc-items.result.now _ c.loop-proc.proc-index proc refl c.loop-proc-test.true c.proc-item.is in
    has_room t c.loop-proc.proc-index proc c.requires.narrow
    (ap (λ l. slice_get l c.loop-proc.proc-index) (sym c.deref-proc-items.ensures.value) ∙ is) c.requires.few

pub loop-proc-preserved : goal.loop-proc-preserved
loop-proc-preserved g c =
    let t = c.args.program.now in
    let made = c.in_ok-put.ensures in
    let proc = c.proc-item.result in
    let is = slice_get_read c.deref-proc-items.result.now _ c.loop-proc.proc-index proc refl c.loop-proc-test.true c.proc-item.is in (
      omega (arith, c.loop-proc.invariant.0, ap length made.2, length-append c.loop-proc.procedures.items (made.0 ∷ [])),
      made_more (AreAssertsIn t) c.deref-proc-items.result.now c.loop-proc.procedures.items c.put.new.list.items
          c.loop-proc.proc-index proc made.0 c.loop-proc.invariant.1 c.loop-proc.invariant.0 is
          (subst (λ r. IfOk r (λ z. AreAssertsIn t proc z)) made.1 c.procedure_asserts.ensures) made.2,
    )

pub returns : goal.returns
returns g c =
    let t = c.args.program.now in
    let items = c.deref-proc-items.ensures.value in
    all_tell t (record { procedures = c.loop-proc.procedures }) (subst
    (λ l. AllMade (AreAssertsIn t) l c.loop-proc.procedures.items) items c.loop-proc.invariant.1)
    (omega (arith, c.loop-proc.invariant.0, c.loop-proc-test.false, c.loop-proc.auto.proc-index-end, ap length items))
