use Rattle.stack_sets.proofs.MemberLemmas.{place_member}
use Rattle.naming.proofs.pruning.head_at.Goals as goal

pub returns : goal.returns
returns g = place_member g.args.heads.now g.args.index _ g.requires
