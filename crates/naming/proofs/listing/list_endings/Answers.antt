use Rattle.std.proofs.Common.{◌≡◌, length, subst}
use Rattle.std.proofs.lemmas.List.{take_all}
use Rattle.naming.specs.Names.{AreListed, endings_in}
use Rattle.naming.proofs.ListLemmas.{listed_more, count_more}
use Rattle.naming.proofs.listing.list_endings.Goals as goal

pub loop-index-preserved : goal.loop-index-preserved
loop-index-preserved g c = record {
  listed = listed_more c.args.names.now c.args.parts.now c.loop-index.index _ c.name_of.result c.loop-index.endings.items
      c.list_part.new.endings.items c.loop-index-test.true c.name_of.ensures c.loop-index.invariant.listed c.in_ok-list_part.ensures;
  count = count_more c.args.parts.now c.loop-index.index _ c.name_of.result c.loop-index.endings.items
      c.list_part.new.endings.items c.loop-index-test.true c.loop-index.invariant.count c.in_ok-list_part.ensures;
}

pub returns-clause-listed : goal.returns-clause-listed
returns-clause-listed g c =
    subst (λ l. AreListed c.args.names.now l c.loop-index.endings.items)
    (take_all c.loop-index.index c.args.parts.now c.loop-index-test.false) c.loop-index.invariant.listed

pub returns-clause-count : goal.returns-clause-count
returns-clause-count g c =
    subst (λ l. length c.loop-index.endings.items ≡ endings_in l)
    (take_all c.loop-index.index c.args.parts.now c.loop-index-test.false) c.loop-index.invariant.count
