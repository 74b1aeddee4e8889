-- The places of a valuation leave room for its globals.
use Rattle.std.proofs.Common.{◌≤◌, ◌+◌, ◌-◌, ◌∙◌, arith}
use Rattle.resolved.specs.Limits.{most_places}
use Rattle.flow_graph.specs.Assignments.{masked}
use Rattle.flow_graph.specs.Calls.{resumed}
use Rattle.flow_graph.specs.Located.{target_mask}
use Rattle.flow_graph.proofs.Calls.{room_below}
use Rattle.flow_graph.proofs.Returns.{resumed_code}
use Rattle.flow_graph.proofs.call.Call.resumed.Goals as goal

pub overflow_add-globals : goal.overflow_add-globals
overflow_add-globals g c =
    let few : c.args.self.now.globals ≤ most_places = omega (arith, c.args.self.now.fits) in
    let room =
    room_below c.args.self.now.globals c.args.values c.args.left.globals c.of-globals.result c.of.result few
    c.ranges.values.fits c.of-globals.ensures c.of.ensures in
    omega (arith, room)

pub returns-clause-valuation : goal.returns-clause-valuation
returns-clause-valuation g c v e target wide count has masks is left =
    let n = c.args.self.now.globals in
    c.masked.ensures
    ∙ (λ t. masked (c.of-globals.ensures t + (c.args.values - c.of.ensures t)) (masks t) c.args.left.result)
    ∙ (λ t. resumed n (target_mask n target) (is t) (left t))
    ∙ resumed_code n target v e wide count has
