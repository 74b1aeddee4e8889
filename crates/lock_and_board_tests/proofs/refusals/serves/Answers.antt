-- The job is kept over the posts, and over the messages taken.
use Rattle.lock_and_board_tests.proofs.refusals.serves.Goals as goal

pub done-requires-clause-job : goal.done-requires-clause-job
done-requires-clause-job g c = c.takes.ensures.keeps c.message-job.result.0 c.posts-refused.ensures.job
