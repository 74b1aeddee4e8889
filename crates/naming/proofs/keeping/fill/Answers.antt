use Rattle.naming.proofs.MoveLemmas.{filled_more}
use Rattle.naming.proofs.keeping.fill.Goals as goal

pub loop-name-preserved : goal.loop-name-preserved
loop-name-preserved g c =
    let both = filled_more c.args.first c.args.names.now c.loop-name.name-index _ c.loop-name.all.items c.add_name.new.all.items
    c.loop-name.next c.in_ok-number.number c.fill_one.new.next c.loop-name-test.true c.loop-name.invariant.all
    c.loop-name.invariant.next c.in_ok-number.ensures c.in_ok-add_name.ensures in
    record { all = both.0; next = both.1 }
