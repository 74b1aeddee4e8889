use Rattle.std.proofs.Common.{refl}
use Rattle.std.proofs.lemmas.Fn.{says_at}
use Rattle.scopes.proofs.Earliest.{begin_list, next_member, end_list}
use Rattle.scopes.proofs.search.try_earliest.Goals as goal

pub loop-item-init : goal.loop-item-init
loop-item-init g c = begin_list

pub loop-item-preserved : goal.loop-item-preserved
loop-item-preserved g c =
    next_member c.args.items.now c.loop-item.item-index c.item-item.result c.loop-item.found c.in_ok-search.field-0
    c.earlier-found.result
    c.loop-item-test.true c.item-item.is c.earlier-found.ensures c.loop-item.invariant
    (says_at g.F.Fn c.in_ok-search.ensures refl)

pub returns : goal.returns
returns g c = end_list c.args.items.now c.loop-item.item-index c.loop-item.found c.loop-item-test.false
    c.loop-item.invariant
