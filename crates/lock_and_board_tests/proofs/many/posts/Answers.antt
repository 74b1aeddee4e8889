-- A post and the service of another message leave the job.
use Rattle.std.proofs.Common.{◌∙◌}
use Rattle.lock_and_board_tests.proofs.many.posts.Goals as goal

pub loop-n-preserved : goal.loop-n-preserved
loop-n-preserved g c =
    let i = c.loop-n.invariant in
    let p = c.post.ensures in
    let s = c.serve-look.ensures in (
      (s.pass.0 ∙ p.pass.0 ∙ i.0.0, s.pass.1 ∙ p.pass.1 ∙ i.0.1, s.pass.2 ∙ p.pass.2 ∙ i.0.2),
      s.keeps c.args.job.now (p.keeps c.args.job.now i.1),
    )
