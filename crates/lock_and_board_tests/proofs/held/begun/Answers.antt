-- A post leaves the job.
use Rattle.std.proofs.Common.{◌∙◌}
use Rattle.lock_and_board_tests.proofs.held.begun.Goals as goal

pub returns-clause-zero : goal.returns-clause-zero
returns-clause-zero g c =
    let taken = c.takes-zero_job.ensures in
    let made = c.two-board.ensures.zero in (
      c.post.ensures.pass.0 ∙ (taken.pass.0 ∙ made.0),
      c.post.ensures.pass.2 ∙ (taken.pass.2 ∙ made.2),
      c.post.ensures.keeps c.takes-zero_job.result taken.job,
    )
