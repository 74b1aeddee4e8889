use Rattle.std.proofs.Common.{sym, ◌∙◌}
use Rattle.stack_sets.proofs.MemberLemmas.{member_by}
use Rattle.stack_sets.proofs.NodeLemmas.{same_pair}
use Rattle.stack_sets.proofs.inclusions.has.Goals as goal

pub returns : goal.returns
returns g c t = member_by _ same_pair c.args.pair c.args.pairs.now.keys (sym c.contains.ensures ∙ t)
