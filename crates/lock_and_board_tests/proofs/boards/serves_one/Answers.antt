-- The job of the message is kept over the take that finds nothing.
use Rattle.lock_and_board_tests.proofs.boards.serves_one.Goals as goal

pub done-requires-clause-job : goal.done-requires-clause-job
done-requires-clause-job g c = c.finds.ensures.keeps c.takes-job.result c.takes-job.ensures.job
