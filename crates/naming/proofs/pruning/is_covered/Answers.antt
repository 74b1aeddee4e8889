use Rattle.naming.proofs.pruning.is_covered.Goals as goal

pub returns-then-branch-clause-covered : goal.returns-then-branch-clause-covered
returns-then-branch-clause-covered g c t =
    (c.head_at-other.result, c.head_at-other.ensures, c.in_ok-covers.ensures.covers c.if-branch.true)
