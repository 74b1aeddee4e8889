-- The job of a message taken is not one that the pass had; so its completion leaves those.
use Rattle.std.proofs.Common.{◌∙◌}
use Rattle.lock_and_board_tests.proofs.refusals.takes.Goals as goal

pub loop-n-preserved : goal.loop-n-preserved
loop-n-preserved g c =
    let i = c.loop-n.invariant in
    let m = c.message-job.ensures in
    let d = c.done.ensures in (
      (d.pass.0 ∙ m.pass.0 ∙ i.0.0, d.pass.1 ∙ m.pass.1 ∙ i.0.1, d.pass.2 ∙ m.pass.2 ∙ i.0.2),
      λ j has. d.keeps j (m.fresh j (i.1 j has)) (m.keeps j (i.1 j has)),
    )
