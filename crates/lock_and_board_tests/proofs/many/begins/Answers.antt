-- A post leaves the job.
use Rattle.std.proofs.Common.{◌∙◌}
use Rattle.lock_and_board_tests.proofs.many.begins.Goals as goal

pub loop-to-preserved : goal.loop-to-preserved
loop-to-preserved g c =
    let i = c.loop-to.invariant in
    let p = c.post.ensures in ((p.pass.0 ∙ i.0.0, p.pass.1 ∙ i.0.1, p.pass.2 ∙ i.0.2), p.keeps c.message-job.result.0 i.1)
