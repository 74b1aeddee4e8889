use Rattle.std.proofs.Common.{◌++◌}
use Rattle.stack_sets.specs.Nodes.{nodes_in}
use Rattle.naming.proofs.PruneLemmas.{enough_none, enough_whole, tried_more}
use Rattle.naming.proofs.pruning.leave_out.Goals as goal

pub loop-head-init : goal.loop-head-init
loop-head-init g c = record {
  known = c.requires.known;
  enough = enough_none (nodes_in c.args.sets.now ++ c.args.nodes.now) c.args.heads.now c.new-kept.result.items c.new-kept.ensures.items;
}

pub keep_head-requires : goal.keep_head-requires
keep_head-requires g c = record { known = c.loop-head.invariant.known }

pub loop-head-preserved : goal.loop-head-preserved
loop-head-preserved g c = record {
  known = c.in_ok-keep_head.ensures.known;
  enough = tried_more (nodes_in c.args.sets.now ++ c.args.nodes.now) c.args.heads.now c.loop-head.kept.items c.keep_head.new.kept.items
      c.loop-head.head-index _ c.loop-head-test.true c.loop-head.invariant.enough c.in_ok-keep_head.ensures.kept;
}

pub returns-clause-enough : goal.returns-clause-enough
returns-clause-enough g c =
    enough_whole (nodes_in c.args.sets.now ++ c.args.nodes.now) c.args.heads.now c.loop-head.kept.items c.loop-head.head-index
    c.loop-head-test.false c.loop-head.invariant.enough
