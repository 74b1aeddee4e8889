use Rattle.stack_sets.proofs.MemberLemmas.{member_in}
use Rattle.exploration.proofs.TupleLemmas.{exact}
use Rattle.exploration.proofs.tuple.insert.Goals as goal

pub returns-clause-added : goal.returns-clause-added
returns-clause-added g c = member_in _ exact c.args.tuple c.args.tuples.now.keys c.insert.new.self.keys c.in_ok-insert.ensures.keys
