-- A post leaves the job under which it is made.
use Rattle.lock_and_board_tests.proofs.boards.turns_after_an_abort.Goals as goal

pub turns_to-requires-clause-job : goal.turns_to-requires-clause-job
turns_to-requires-clause-job g c = c.post.ensures.keeps c.takes-job.result c.takes-job.ensures.job
