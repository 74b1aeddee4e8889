-- A post leaves the job.
use Rattle.lock_and_board_tests.proofs.held.second.Goals as goal

pub returns : goal.returns
returns g c = record { pass = (c.post-answer.ensures.pass.0, c.post-answer.ensures.keeps c.args.job.now c.requires.job) }
