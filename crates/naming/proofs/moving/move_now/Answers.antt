use Rattle.std.proofs.Common.{refl}
use Rattle.naming.specs.Moves.{HasNumber}
use Rattle.naming.proofs.MoveLemmas.{moved_step, moved_whole}
use Rattle.naming.proofs.moving.move_now.Goals as goal

pub loop-head-preserved : goal.loop-head-preserved
loop-head-preserved g c =
    moved_step c.args.base (HasNumber c.args.names.now) c.as_slice-head-items.result.now c.loop-head.head-index _
    c.loop-head.heads.items c.push.new.self.items c.in-Some.below c.loop-head-test.true c.loop-head.invariant
    c.in-Some.ensures c.in_ok-push.ensures.items

pub returns : goal.returns
returns g c = (
  refl,
  moved_whole c.args.base (HasNumber c.args.names.now) c.as_slice-head-items.result.now c.args.node.now.heads.items
      c.loop-head.head-index c.loop-head.heads.items c.put_in_order.new.heads.items c.loop-head-test.false
      c.as_slice-head-items.ensures.value
      c.loop-head.invariant c.put_in_order.ensures,
)
