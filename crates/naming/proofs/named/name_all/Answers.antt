use Rattle.std.proofs.Common.{sym, subst, arith}
use Rattle.std.proofs.lemmas.List.{take_all}
use Rattle.naming.specs.Holds.{HoldsFor}
use Rattle.naming.proofs.ListLemmas.{take_one}
use Rattle.naming.proofs.named.name_all.Goals as goal

pub loop-item-preserved : goal.loop-item-preserved
loop-item-preserved g c = record {
  level = c.in_ok-take_in.ensures.level;
  few = omega (arith, c.loop-item.invariant.few, c.in_ok-take_in.ensures.few);
  holds = subst (λ l. HoldsFor c.args.base l c.take_in.new.self)
      (sym (take_one c.args.items.now c.loop-item.item-index _ c.loop-item-test.true))
      (c.in_ok-take_in.ensures.holds _ c.loop-item.invariant.holds);
}

pub returns-clause-holds : goal.returns-clause-holds
returns-clause-holds g c =
    subst (λ l. HoldsFor c.args.base l c.loop-item.named)
    (take_all c.loop-item.item-index c.args.items.now c.loop-item-test.false) c.loop-item.invariant.holds
