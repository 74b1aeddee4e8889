-- The writes begin at no bit that was tried.
use Rattle.std.proofs.Common.{◌≤◌, inl, inr, sym, ap, ◌∙◌, arith}
use Rattle.std.proofs.Math.Nat.{eq-or-lt_of_le}
use Rattle.flow_graph.specs.Joining.{all_choose}
use Rattle.flow_graph.proofs.joining.first_chosen.Goals as goal

pub loop-first-init : goal.loop-first-init
loop-first-init g c = λ bit below. absurd (omega (arith, below))

pub loop-first-preserved : goal.loop-first-preserved
loop-first-preserved g c = λ bit below.
    elim (eq-or-lt_of_le (let within : bit ≤ c.loop-first.first = omega (arith, below) in within)) [
      | inr before ↦ c.loop-first.invariant bit before
      | inl now ↦ ap (all_choose c.args.writes.now) now ∙ sym c.all_choose.ensures ∙ c.if-all_choose.false
    ]
