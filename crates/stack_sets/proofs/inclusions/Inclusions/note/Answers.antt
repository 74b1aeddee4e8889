use Rattle.stack_sets.proofs.NodeLemmas.{pair_eq}
use Rattle.stack_sets.proofs.WithinLemmas.{found_more}
use Rattle.stack_sets.proofs.inclusions.Inclusions.note.Goals as goal

pub returns : goal.returns
returns g c p m = found_more pair_eq c.args.pair c.args.self.now.found.keys c.insert.new.self.keys c.in_ok-insert.ensures.keys p m
