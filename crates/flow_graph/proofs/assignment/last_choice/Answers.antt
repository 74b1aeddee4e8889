-- One `?` more doubles the choices, of which there are no more than words.
use Rattle.std.proofs.Common.{◌≡◌, suc, ◌^◌, refl, ◌∙◌, ap, arith, pow-suc}
use Rattle.std.proofs.lemmas.List.{drop_all}
use Rattle.flow_graph.specs.Assignments.{any_of, anys}
use Rattle.flow_graph.proofs.Assignments.{anys_step, one_more_fits}
use Rattle.flow_graph.proofs.assignment.last_choice.Goals as goal
use Rattle.flow_graph.proofs.assignment.last_choice.Goals.{in-Any, in-Value}

pub overflow_mul-last : goal.overflow_mul-last
overflow_mul-last g c =
    let fits = one_more_fits c.args.writes.now _ _ _ c.loop-write.invariant c.loop-write-test.true c.write-item.is
    (ap any_of c.in-Any.is) c.requires in
    omega (arith, fits)

pub overflow_add-last : goal.overflow_add-last
overflow_add-last g c =
    let fits = one_more_fits c.args.writes.now _ _ _ c.loop-write.invariant c.loop-write-test.true c.write-item.is
    (ap any_of c.in-Any.is) c.requires in
    omega (arith, fits)

pub loop-write-preserved : goal.loop-write-preserved
loop-write-preserved g c =
    let step = anys_step c.args.writes.now c.loop-write.write-index c.write-item.result c.loop-write-test.true c.write-item.is in
    let n = c.loop-write.invariant.0 in
    elim c.match-write.branch [
      | in-Any w ↦ let one = ap any_of w.in-Any.is in
          (suc n, omega (arith, w.last-is, c.loop-write.invariant.1, pow-suc 2 n), omega (arith, c.loop-write.invariant.2, step, one))
      | in-Value w ↦ let zero = ap any_of w.in-Value.is in
          (n, omega (arith, w.last-is, c.loop-write.invariant.1), omega (arith, c.loop-write.invariant.2, step, zero))
    ]

pub loop-write-init : goal.loop-write-init
loop-write-init g c = (0, refl, omega arith)

pub returns : goal.returns
returns g c =
    let n = c.loop-write.invariant.0 in
    let none = ap anys (drop_all c.loop-write.write-index c.args.writes.now c.loop-write-test.false) in
    let all : n ≡ anys c.args.writes.now = omega (arith, c.loop-write.invariant.2, none) in
    c.loop-write.invariant.1 ∙ ap (λ k. 2 ^ k) all
