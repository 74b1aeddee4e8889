use Rattle.std.proofs.Common.{refl, subst}
use Rattle.language.specs.Lists.{Member}
use Rattle.naming.specs.Moves.{IsNumber}
use Rattle.stack_sets.proofs.MemberLemmas.{place_member}
use Rattle.naming.proofs.MoveLemmas.{moved_step, moved_whole}
use Rattle.naming.proofs.moving.move_all.Goals as goal

pub last_number-requires : goal.last_number-requires
last_number-requires g c =
    c.requires _ _ (subst (Member _) c.as_slice-head-items.ensures.value
    (place_member c.as_slice-head-items.result.now c.loop-head.head-index _ c.loop-head-test.true))

pub loop-head-preserved : goal.loop-head-preserved
loop-head-preserved g c =
    moved_step c.args.base (IsNumber c.args.names.now) c.as_slice-head-items.result.now c.loop-head.head-index _
    c.loop-head.heads.items c.push.new.self.items c.last_number.result c.loop-head-test.true c.loop-head.invariant
    c.last_number.ensures c.in_ok-push.ensures.items

pub returns : goal.returns
returns g c = (
  refl,
  moved_whole c.args.base (IsNumber c.args.names.now) c.as_slice-head-items.result.now c.args.node.now.heads.items
      c.loop-head.head-index c.loop-head.heads.items c.put_in_order.new.heads.items c.loop-head-test.false
      c.as_slice-head-items.ensures.value
      c.loop-head.invariant c.put_in_order.ensures,
)
