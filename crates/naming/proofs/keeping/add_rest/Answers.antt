use Rattle.std.proofs.Common.{ap, length, ◌+◌, arith}
use Rattle.stack_sets.specs.Nodes.{nodes_in}
use Rattle.naming.proofs.KeepLemmas.{all_length, reaches, rest_count, rest_done, rest_init, rest_one}
use Rattle.naming.proofs.MoveLemmas.{prefix_on, prefix_same}
use Rattle.naming.proofs.keeping.add_rest.Goals as goal

pub add_at-requires : goal.add_at-requires
add_at-requires g c =
    reaches c.args.nodes.now _ _
    (ap (λ z. c.args.base + z)
    (all_length c.args.base c.args.nodes.now c.args.names.now c.args.all.now _ c.requires.all c.requires.kept.0))
    c.requires.reach c.loop-index.index c.node_in.result.now c.node_in.ensures

pub loop-index-init : goal.loop-index-init
loop-index-init g c = record {
  keeps = prefix_same (nodes_in c.args.sets.now);
  count = omega arith;
  kept = rest_init c.args.base c.args.nodes.now c.args.names.now c.args.all.now (length (nodes_in c.args.sets.now)) c.requires.all
      (nodes_in c.args.sets.now) c.requires.kept;
}

pub loop-index-preserved : goal.loop-index-preserved
loop-index-preserved g c =
    let first = length (nodes_in c.args.sets.now) in
    let old = nodes_in c.loop-index.sets in
    let new = nodes_in c.add_at.new.sets in
    record {
      keeps = prefix_on (nodes_in c.args.sets.now) old new c.loop-index.invariant.keeps c.add_at.ensures.keeps;
      count = rest_count c.args.base c.args.nodes.now c.args.names.now c.args.all.now first c.requires.all old new c.loop-index.index
          c.node_in.result.now c.node_in.ensures c.loop-index.invariant.count c.loop-index.invariant.kept c.name_at-name.result
          c.name_at-name.ensures c.in_ok-add_at.ensures.adds;
      kept = rest_one c.args.base c.args.nodes.now c.args.names.now c.args.all.now first c.requires.all old new c.loop-index.index
          c.node_in.result.now c.node_in.ensures c.loop-index.invariant.count c.loop-index.invariant.kept c.name_at-name.result
          c.name_at-name.ensures c.in_ok-add_at.ensures.adds;
    }

pub returns-clause-kept : goal.returns-clause-kept
returns-clause-kept g c =
    rest_done c.args.base c.args.nodes.now c.args.names.now c.args.all.now (length (nodes_in c.args.sets.now)) c.requires.all
    (nodes_in c.loop-index.sets) c.loop-index.index c.loop-index-test.false c.requires.kept.0 c.loop-index.invariant.kept
