use Rattle.std.proofs.Common.{◌++◌, subst}
use Rattle.stack_sets.specs.Nodes.{nodes_in}
use Rattle.stack_sets.specs.Within.{found_in}
use Rattle.naming.specs.Pruned.{IsPruned}
use Rattle.naming.proofs.PruneLemmas.{none_known, pruned_done, pruned_more, pruned_none}
use Rattle.naming.proofs.pruning.prune_all.Goals as goal

pub loop-node-init : goal.loop-node-init
loop-node-init g c = record {
  known = none_known (nodes_in c.args.sets.now ++ c.args.nodes.now) (found_in c.new-known.result) c.new-known.ensures;
  pruned = pruned_none (nodes_in c.args.sets.now ++ c.args.nodes.now) c.args.nodes.now c.new-pruned.result.items
      c.new-pruned.ensures.items;
}

pub prune-requires : goal.prune-requires
prune-requires g c = record { known = c.loop-node.invariant.known }

pub loop-node-preserved : goal.loop-node-preserved
loop-node-preserved g c =
    let all = nodes_in c.args.sets.now ++ c.args.nodes.now in
    let node = c.node-item.result in
    record {
      known = c.in_ok-less.ensures.known;
      pruned = pruned_more all c.args.nodes.now c.loop-node.pruned.items c.push.new.self.items c.loop-node.node-index node
          c.in_ok-less.less c.loop-node-test.true c.loop-node.invariant.pruned
          (subst (λ z. IsPruned all z c.in_ok-less.less) c.node-item.is c.in_ok-less.ensures.pruned) c.in_ok-push.ensures.items;
    }

pub returns : goal.returns
returns g c =
    pruned_done (nodes_in c.args.sets.now ++ c.args.nodes.now) c.args.nodes.now c.loop-node.pruned.items c.loop-node.node-index
    c.loop-node-test.false c.loop-node.invariant.pruned
