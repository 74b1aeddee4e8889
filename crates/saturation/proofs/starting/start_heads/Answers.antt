use Rattle.std.proofs.Common.{◌≡◌, refl, sym, arith}
use Rattle.saturation.specs.Items.{Found, item_of}
use Rattle.saturation.specs.Starts.{first_item, IsStart}
use Rattle.saturation.specs.declared.item.Item.{Item}
use Rattle.saturation.proofs.FollowLemmas.{each_done, seen_only, seen_all}
use Rattle.saturation.proofs.starting.start_heads.Goals as goal

abbrev IsIt : Item → Found → Type 0
IsIt item x = x ≡ item_of item

pub loop-head-preserved : goal.loop-head-preserved
loop-head-preserved g c = (
  seen_all (IsStart c.args.globals) IsIt (first_item c.args.globals)
      (λ one. refl) c.args.heads.now c.loop-head.head-index _ c.loop-head-test.true
      c.first.result c.first.ensures _ _ c.loop-head.invariant.0 c.in_ok-reach.ensures.grows
      (λ x is. (c.first.result, c.in_ok-reach.ensures.added, sym is)),
  seen_only (IsStart c.args.globals) IsIt (first_item c.args.globals)
      (λ one. refl) c.args.heads.now c.loop-head.head-index _ c.loop-head-test.true
      c.first.result c.first.ensures _ _ _ c.loop-head.invariant.1 c.in_ok-reach.ensures.grows,
  omega (arith, c.loop-head.invariant.2, c.in_ok-reach.ensures.work),
)

pub returns-in_err-reach-clause-only : goal.returns-in_err-reach-clause-only
returns-in_err-reach-clause-only g c =
    seen_only (IsStart c.args.globals) IsIt (first_item c.args.globals)
    (λ one. refl) c.args.heads.now c.loop-head.head-index _ c.loop-head-test.true
    c.first.result c.first.ensures _ _ _ c.loop-head.invariant.1 c.in_err-reach.ensures.grows

pub returns-clause-all : goal.returns-clause-all
returns-clause-all g c =
    each_done (IsStart c.args.globals) c.args.heads.now c.loop-head.head-index _ c.loop-head-test.false c.loop-head.invariant.0
