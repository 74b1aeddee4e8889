-- The steps are as few as a vector holds, so they are shallow.
use Rattle.std.proofs.Common.{arith}
use Rattle.flow_graph.proofs.Codes.{shallow_alone, worth_alone}
use Rattle.flow_graph.proofs.scope.Scope.postfix.Goals as goal

pub invariant_of-result : goal.invariant_of-result
invariant_of-result g c = record {
  shallow =
      shallow_alone _ c.new-steps.result.items c.put.new.steps.items c.in_ok-put.ensures c.new-steps.ensures.items (let small =
      c.put.new.steps.small in omega (arith, small));
}

pub returns : goal.returns
returns g c f = worth_alone f _ c.new-steps.result.items c.put.new.steps.items c.in_ok-put.ensures c.new-steps.ensures.items
