-- Each argument is one more bit of the entry.
use Rattle.resolved.specs.Limits.{most_places}
use Rattle.std.proofs.Common.{◌≡◌, ◌∷◌, ◌+◌, ◌*◌, ◌^◌, ◌∙◌, ◌<◌, ap, sym, map, drop, arith}
use Rattle.std.proofs.lemmas.List.{drop_more, drop_all}
use Rattle.std.proofs.lemmas.Nat.{pow_pos}
use Rattle.std.proofs.Math.Nat.{mod-lt}
use Rattle.flow_graph.specs.Bits.{coded, worth_of}
use Rattle.flow_graph.specs.Calls.{call_entry}
use Rattle.flow_graph.specs.Formulas.{says}
use Rattle.flow_graph.proofs.Calls.{argument_step, entry_fits}
use Rattle.flow_graph.proofs.Stacks.{byte_worth}
use Rattle.flow_graph.proofs.call.Call.entry.Goals as goal

pub overflow_shl-entry : goal.overflow_shl-entry
overflow_shl-entry g c =
    omega (
      arith,
      c.loop-argument.invariant.2,
      c.loop-argument-test.true,
      c.as_slice-argument-items.ensures.len,
      c.args.self.now.fits,
    )

pub overflow_add-entry : goal.overflow_add-entry
overflow_add-entry g c =
    let bit : c.loop-argument.bit < most_places = overflow_shl-entry g c in
    let fits = entry_fits _ c.loop-argument.entry c.loop-argument.bit _
    (byte_worth c.value.result) c.loop-argument.invariant.1 bit in
    omega (arith, fits)

pub loop-argument-preserved : goal.loop-argument-preserved
loop-argument-preserved g c =
    let xs = c.as_slice-argument-items.result.now in
    let i = c.loop-argument.argument-index in
    let next = drop_more xs i c.argument-item.result c.loop-argument-test.true ∙ ap (λ x. x ∷ drop (i + 1) xs) (sym c.argument-item.is) in
    let bit : c.loop-argument.bit < most_places = overflow_shl-entry g c in
    let (whole, below) =
    argument_step (λ f. says f c.args.values) (drop i xs)
    (drop (i + 1) xs) c.argument-item.result c.loop-argument.entry c.loop-argument.bit _ _
    c.loop-argument.invariant.0 next (byte_worth c.value.result ∙ ap worth_of c.value.ensures) c.loop-argument.invariant.1 bit in
    (whole, below, omega (arith, c.loop-argument.invariant.2))

pub returns : goal.returns
returns g c =
    let xs = c.as_slice-argument-items.result.now in
    let all = ap (λ l. coded (map (λ f. says f c.args.values) l)) (drop_all c.loop-argument.argument-index xs c.loop-argument-test.false) in
    let none : c.loop-argument.entry + 2 ^ c.loop-argument.bit * 0 ≡ c.loop-argument.entry = omega arith in
    sym (ap (λ n. c.loop-argument.entry + 2 ^ c.loop-argument.bit * n) all ∙ none)
    ∙ c.loop-argument.invariant.0
    ∙ ap (λ l. call_entry c.args.self.now.globals l c.args.values) c.as_slice-argument-items.ensures.value

pub loop-argument-init : goal.loop-argument-init
loop-argument-init g c =
    let n = c.args.self.now.globals in
    let whole = coded (map (λ f. says f c.args.values) c.as_slice-argument-items.result.now) in (
      λ i. c.of-entry.ensures i + 2 ^ c.count-bit.ensures i * whole,
      omega (arith, c.of-entry.ensures, ap (λ k. 2 ^ k) c.count-bit.ensures, mod-lt c.args.values (pow_pos n)),
      omega (arith, c.count-bit.ensures),
    )
