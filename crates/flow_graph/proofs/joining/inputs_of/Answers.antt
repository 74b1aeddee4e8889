-- A bit that is read comes after those below it.
use Rattle.std.proofs.Common.{◌≡◌, ◌+◌, ◌-◌, ◌++◌, ◌∷◌, [], true, length, sym, ap, ◌∙◌, arith}
use Rattle.std.proofs.lemmas.Bool.{eqb-true, eqb-false}
use Rattle.std.proofs.lemmas.List.{length-append}
use Rattle.flow_graph.specs.Joining.{some_reads, read_bits}
use Rattle.resolved.specs.Limits.{most_places}
use Rattle.flow_graph.proofs.JointLemmas.{read_first, read_one, read_none, read_longer}
use Rattle.flow_graph.proofs.joining.inputs_of.Goals as goal
use Rattle.flow_graph.proofs.joining.inputs_of.Goals.{then-some_reads+else-is_full, else-some_reads}

pub overflow_cast-bit : goal.overflow_cast-bit
overflow_cast-bit g c = omega (arith, c.loop-bit-test.true)

pub overflow_cast-bit-then-some_reads : goal.overflow_cast-bit-then-some_reads
overflow_cast-bit-then-some_reads g c = omega (arith, c.loop-bit-test.true)

pub loop-bit-init : goal.loop-bit-init
loop-bit-init g c = (c.new-bits.ensures ∙ sym (read_first c.args.writes.now), omega (arith, ap length c.new-bits.ensures))

pub loop-bit-preserved : goal.loop-bit-preserved
loop-bit-preserved g c =
    let ws = c.args.writes.now in
    let bit = c.loop-bit.bit in
    let old = c.loop-bit.bits.items in
    let so_far = c.loop-bit.invariant in
    elim c.if-some_reads.branch [
      | then-some_reads+else-is_full w ↦
          let there : some_reads ws bit ≡ true = sym c.some_reads.ensures ∙ w.if-some_reads.true in
          let items = ap (λ b. b.items) w.bits-is ∙ w.push.ensures.items in
          let room : (length old ≡ 10 → ⊥) = eqb-false _ _ (sym w.is_full.ensures.value ∙ w.if-is_full.false) in (
            items ∙ ap (λ xs. xs ++ bit ∷ []) so_far.0 ∙ sym (read_one ws bit there),
            omega (arith, ap length items, length-append old (bit ∷ []), so_far.1, room),
          )
      | else-some_reads w ↦
          let items = ap (λ b. b.items) w.bits-is in (
            items ∙ so_far.0 ∙ sym (read_none ws bit (sym c.some_reads.ensures ∙ w.if-some_reads.false)),
            omega (arith, ap length items, so_far.1),
          )
    ]

pub returns-then-is_full-clause-none : goal.returns-then-is_full-clause-none
returns-then-is_full-clause-none g c none =
    let ws = c.args.writes.now in
    let bit = c.loop-bit.bit in
    let full : length c.loop-bit.bits.items ≡ 10 = eqb-true _ _ (sym c.is_full.ensures.value ∙ c.if-is_full.true) in
    let one = ap length (read_one ws bit (sym c.some_reads.ensures ∙ c.if-some_reads.true)) in
    let more = read_longer ws (most_places - (bit + 1)) (bit + 1) most_places (omega (arith, c.loop-bit-test.true)) in
    omega (arith, full, one, more, ap length c.loop-bit.invariant.0, length-append (read_bits ws bit) (bit ∷ []))

pub returns-clause-some : goal.returns-clause-some
returns-clause-some g c =
    let all : c.loop-bit.bit ≡ most_places = omega (arith, c.loop-bit-test.false, c.loop-bit.auto.bit-end) in
    (c.loop-bit.invariant.0 ∙ ap (read_bits c.args.writes.now) all, c.loop-bit.invariant.1)
