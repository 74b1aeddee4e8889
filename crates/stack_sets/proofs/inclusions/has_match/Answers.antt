use Rattle.stack_sets.proofs.WithinLemmas.{match_here}
use Rattle.stack_sets.proofs.inclusions.has_match.Goals as goal

pub returns-then-is_under : goal.returns-then-is_under
returns-then-is_under g c t =
    match_here c.args.pairs.now.keys c.args.known.now.keys c.args.heads.now c.loop-other.other-index _ c.args.head c.loop-other-test.true
    c.if-eq.ensures
    (c.if-is_under.ensures t)
