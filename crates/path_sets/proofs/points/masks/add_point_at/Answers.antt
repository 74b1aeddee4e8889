use Rattle.std.proofs.Common.{refl, sym, subst}
use Rattle.std.specs.List.{IsDistinct}
use Rattle.indexmap.proofs.CallerLemmas.{keys-with_value_at}
use Rattle.path_sets.proofs.points.masks.add_point_at.Goals as goal

pub returns-clause-adds : goal.returns-clause-adds
returns-clause-adds g c = record {
  mask = c.index_mut.result.now;
  marked = c.add_point.new.mask;
  was = c.index_mut.ensures.value;
  is = refl;
  marks = c.add_point.ensures;
}

pub returns-clause-keys : goal.returns-clause-keys
returns-clause-keys g c = keys-with_value_at c.args.masks.now c.args.at c.add_point.new.mask

pub returns-clause-unique : goal.returns-clause-unique
returns-clause-unique g c =
    subst (IsDistinct g.K.PartialEq.eq) (sym (keys-with_value_at c.args.masks.now c.args.at c.add_point.new.mask)) c.requires.unique
