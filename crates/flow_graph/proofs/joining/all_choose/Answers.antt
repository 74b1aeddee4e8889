-- Each write is for the place after that of the write before.
use Rattle.std.proofs.Common.{◌≡◌, suc, ◌+◌, true, false, cond, nat_lt, drop, sym, ◌∙◌, ap, ap₂, arith}
use Rattle.std.proofs.lemmas.Bool.{lt-ltb, le-ltb}
use Rattle.flow_graph.specs.Joining.{all_choose, chooses}
use Rattle.flow_graph.proofs.ChosenLemmas.{choose_step}
use Rattle.flow_graph.proofs.JointLemmas.{either}
use Rattle.resolved.specs.Limits.{most_places}
use Rattle.flow_graph.proofs.joining.all_choose.Goals as goal
use Rattle.flow_graph.proofs.joining.all_choose.Goals.{
  then-bit-ge-MOST_PLACES-via-then-bit-ge-MOST_PLACES,
  then-bit-ge-MOST_PLACES-via-else-bit-ge-MOST_PLACES+then-not-chooses,
}

pub loop-write-preserved : goal.loop-write-preserved
loop-write-preserved g c =
    let ws = c.args.writes.now in
    let bit = c.loop-write.bit in
    let rest = drop (c.loop-write.write-index + 1) ws in
    let inside = lt-ltb bit most_places (omega (arith, c.if-bit-ge-MOST_PLACES.false)) in
    let chosen : chooses c.write-item.result bit ≡ true = sym c.chooses.ensures ∙ c.if-not-chooses.false in
    ap (all_choose rest) (let z : bit + 1 ≡ suc bit = omega arith in z)
    ∙ sym (choose_step ws c.loop-write.write-index bit c.write-item.result c.loop-write-test.true c.write-item.is
    ∙ ap₂ (λ x y. cond x (cond y (all_choose rest (suc bit)) false) false) inside chosen)
    ∙ c.loop-write.invariant

pub returns-then-bit-ge-MOST_PLACES : goal.returns-then-bit-ge-MOST_PLACES
returns-then-bit-ge-MOST_PLACES g c =
    let ws = c.args.writes.now in
    let bit = c.loop-write.bit in
    let rest = drop (c.loop-write.write-index + 1) ws in
    let step = choose_step ws c.loop-write.write-index bit c.write-item.result c.loop-write-test.true c.write-item.is in
    elim c.then-bit-ge-MOST_PLACES.branch [
      | then-bit-ge-MOST_PLACES-via-then-bit-ge-MOST_PLACES w ↦
          let outside = le-ltb bit most_places (omega (arith, w.if-bit-ge-MOST_PLACES.true)) in
          sym (step ∙ ap (λ x. cond x (cond (chooses c.write-item.result bit) (all_choose rest (suc bit)) false) false) outside)
          ∙ c.loop-write.invariant
      | then-bit-ge-MOST_PLACES-via-else-bit-ge-MOST_PLACES+then-not-chooses w ↦
          let other : chooses c.write-item.result bit ≡ false = sym w.chooses.ensures ∙ w.if-not-chooses.true in
          sym (step ∙ ap (λ y. cond (nat_lt bit most_places) (cond y (all_choose rest (suc bit)) false) false) other
          ∙ either (nat_lt bit most_places) false)
          ∙ c.loop-write.invariant
    ]
