-- A post leaves the job.
use Rattle.switchboard.proofs.Jobs.{post_keeps, post_same}
use Rattle.lock_and_board_tests.proofs.held.first.Goals as goal

pub returns : goal.returns
returns g c =
    let p = c.post_held-answer.ensures in
    record {
      pass = (
        (post_same _ c.args.pass c.post_held-answer.new.pass c.args.job.now 0 _ c.post_held-answer.result p).0,
        post_keeps _ c.args.pass c.post_held-answer.new.pass c.args.job.now 0 _ c.post_held-answer.result p c.args.job.now c.requires.job,
      );
    }
