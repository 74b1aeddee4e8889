-- After the exit, where nothing is asserted, comes what the body asserts.
use Rattle.std.proofs.Common.{◌≡◌, ◌++◌, ◌∷◌, [], None, length, ◌∙◌, ap, subst, arith}
use Rattle.resolved.proofs.Counted.{width_counted}
use Rattle.flow_graph.specs.Asserted.{AssertsPut}
use Rattle.flow_graph.specs.Drawing.{names_in}
use Rattle.flow_graph.proofs.GraphLemmas.{scope_in}
use Rattle.flow_graph.proofs.asserts.procedure_asserts.Goals as goal

pub put_asserts-requires : goal.put_asserts-requires
put_asserts-requires g c =
    omega (
      arith,
      c.requires.0,
      width_counted c.args.program.now c.args.proc.now,
      ap length c.as_slice.ensures.value,
      ap length c.as_slice-2.ensures.value,
      ap length c.as_slice-3.ensures.value,
    )

pub returns : goal.returns
returns g c =
    let s = names_in c.args.program.now c.args.proc.now in
    let old = c.push.new.list.items in
    let new = c.put_asserts.new.sides.items in
    let start : old ≡ None ∷ [] = c.in_ok-push.ensures ∙ ap (λ l. l ++ (None ∷ [])) c.new-sides.ensures.items in
    let same : scope_in c.as_slice.result.now c.as_slice-2.result.now c.as_slice-3.result.now c.as_slice-4.result.now ≡ s =
    λ t.
    scope_in (c.as_slice.ensures.value t) (c.as_slice-2.ensures.value t) (c.as_slice-3.ensures.value t)
    (c.as_slice-4.ensures.value t) in
    let put = subst (λ z. AssertsPut z old new c.as_slice-5.result.now) same c.in_ok-put_asserts.ensures in
    let of_body = subst (AssertsPut s old new) c.as_slice-5.ensures.value put in
    subst (λ o. AssertsPut s o new c.args.proc.now.body.items) start of_body
