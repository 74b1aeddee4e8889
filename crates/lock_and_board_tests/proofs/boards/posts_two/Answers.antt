-- A post leaves the job.
use Rattle.lock_and_board_tests.proofs.boards.posts_two.Goals as goal

pub post-requires-2-clause-job : goal.post-requires-2-clause-job
post-requires-2-clause-job g c = c.post.ensures.keeps c.takes-job.result c.takes-job.ensures.job

pub returns-clause-job : goal.returns-clause-job
returns-clause-job g c = c.post-2.ensures.keeps c.takes-job.result (c.post.ensures.keeps c.takes-job.result c.takes-job.ensures.job)
