use Rattle.post_ledger.proofs.Closing.{board_taken}
use Rattle.post_ledger.proofs.laws.what_was_sent_on_a_board_was_taken.Goals as goal

pub returns : goal.returns
returns g c = board_taken
