-- A post leaves the job.
use Rattle.lock_and_board_tests.proofs.refusals.post_twice.Goals as goal

pub post-requires-2-clause-job : goal.post-requires-2-clause-job
post-requires-2-clause-job g c = c.post.ensures.keeps c.args.job.now c.requires.job

pub returns-in-Ok-clause-job : goal.returns-in-Ok-clause-job
returns-in-Ok-clause-job g c = c.post.ensures.keeps c.args.job.now c.requires.job

pub returns-clause-job : goal.returns-clause-job
returns-clause-job g c = c.post-2.ensures.keeps c.args.job.now (c.post.ensures.keeps c.args.job.now c.requires.job)
