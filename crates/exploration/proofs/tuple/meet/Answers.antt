use Rattle.std.proofs.Common.{sym, ◌∙◌}
use Rattle.stack_sets.proofs.MemberLemmas.{member_by}
use Rattle.exploration.proofs.TupleLemmas.{exact}
use Rattle.exploration.proofs.tuple.meet.Goals as goal

pub returns-then-contains-clause-added : goal.returns-then-contains-clause-added
returns-then-contains-clause-added g c = member_by _ exact c.args.tuple c.args.tuples.now.keys (sym c.contains.ensures ∙ c.if-contains.true)
