-- The second job of a pass outlives the first.
use Rattle.analysis_tests.proofs.boards.ends.settle.Goals as goal

pub spend-requires-3-clause-job : goal.spend-requires-3-clause-job
spend-requires-3-clause-job g c =
    let side = c.requires.row.one in
    λ j at. c.spend-2.ensures.others j (side.second j at) (λ same. side.apart j same at)
