-- Each lane has returned what the lane of its procedure returns.
use Rattle.std.proofs.Common.{arith}
use Rattle.gather.proofs.Crews.{all_returned}
use Rattle.gather.proofs.crew.work_all.Goals as goal

pub returns : goal.returns
returns g c = all_returned g.B-Board.identity g.B-Board.sight c.args.context.now.graphs.now c.args.context.now.limit
    (g.B-Board.identity c.args.context.now.board.now) g.S.PathSet.members c.in_ok-lanes.lanes.items c.in_ok-results.results.items
    c.in_ok-lanes.ensures c.in_ok-results.ensures

pub run_all-requires-clause-few : goal.run_all-requires-clause-few
run_all-requires-clause-few g c κs within = omega (arith, c.in_ok-lanes.ensures.all, c.args.context.now.graphs.now.few)

pub run_all-requires-clause-runs : goal.run_all-requires-clause-runs
run_all-requires-clause-runs g c κs within = λ i j at. (c.in_ok-lanes.ensures.own i j at).1
