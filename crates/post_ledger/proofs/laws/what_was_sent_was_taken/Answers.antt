use Rattle.post_ledger.proofs.Closing.{all_taken, each_taken, each_done, done_once}
use Rattle.post_ledger.proofs.laws.what_was_sent_was_taken.Goals as goal

pub returns-clause-all : goal.returns-clause-all
returns-clause-all g c = all_taken

pub returns-clause-each : goal.returns-clause-each
returns-clause-each g c = each_taken

pub returns-clause-done : goal.returns-clause-done
returns-clause-done g c = each_done

pub returns-clause-once : goal.returns-clause-once
returns-clause-once g c = done_once
