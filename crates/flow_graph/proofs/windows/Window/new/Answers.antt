-- One bit after others.
use Rattle.std.proofs.Common.{◌≡◌, ◌≤◌, suc, ◌*◌, ◌+◌, ◌^◌, ◌∙◌, ap, refl, arith, pow-suc}
use Rattle.std.proofs.Math.Pow.{pow_mono}
use Rattle.flow_graph.proofs.windows.Window.new.Goals as goal

pub returns-clause-window : goal.returns-clause-window
returns-clause-window c =
    let front = c.args.front in
    let small : 2 ^ front ≤ 2 ^ 10 = pow_mono (let z : front ≤ 10 = omega (arith, c.requires.few) in z) in
    let double : 2 ^ (1 + front) ≡ 2 ^ front * 2 =
    ap (λ k. 2 ^ k) (let z : 1 + front ≡ suc front = omega arith in z) ∙ pow-suc 2 front in
    (omega arith, (omega (arith, c.requires.place), (refl, omega (arith, small, double))))
