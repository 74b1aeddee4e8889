use Rattle.std.proofs.Common.{sym, ◌∙◌}
use Rattle.stack_sets.proofs.MemberLemmas.{member_by}
use Rattle.exploration.proofs.TupleLemmas.{exact}
use Rattle.exploration.proofs.tuple.is_met.Goals as goal

pub returns : goal.returns
returns g c t = member_by _ exact c.args.tuple.now c.args.tuples.now.keys (sym c.contains.ensures ∙ t)
