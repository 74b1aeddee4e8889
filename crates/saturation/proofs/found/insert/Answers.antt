use Rattle.stack_sets.proofs.MemberLemmas.{member_in}
use Rattle.saturation.proofs.ItemLemmas.{exact}
use Rattle.saturation.proofs.found.insert.Goals as goal

pub returns-clause-added : goal.returns-clause-added
returns-clause-added g c = member_in _ exact c.args.item c.args.items.now.keys c.insert.new.self.keys c.in_ok-insert.ensures.keys
