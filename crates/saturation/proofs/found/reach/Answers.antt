use Rattle.std.proofs.Common.{sym, ◌∙◌}
use Rattle.stack_sets.proofs.MemberLemmas.{member_by}
use Rattle.saturation.proofs.ItemLemmas.{exact}
use Rattle.saturation.proofs.found.reach.Goals as goal

pub returns-then-contains-clause-added : goal.returns-then-contains-clause-added
returns-then-contains-clause-added g c = member_by _ exact c.args.item c.args.items.now.keys (sym c.contains.ensures ∙ c.if-contains.true)
