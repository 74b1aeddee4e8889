use Rattle.std.proofs.Common.{◌≡◌, sym, subst}
use Rattle.std.specs.List.{each_same}
use Rattle.path_sets.specs.Quads.{QuadsAreReduced, QuadsGoDown}
use Rattle.path_sets.specs.Walks.{StandOnce}
use Rattle.path_sets.proofs.diagrams.quads.Quads.copy.Goals as goal

pub invariant_of-result : goal.invariant_of-result
invariant_of-result g c =
    let s = c.args.self.now in
    let old = s.kept.keys in
    let new = c.in_ok-clone.field-0.keys in
    let same : old ≡ new = sym (each_same old new c.in_ok-clone.ensures.cases) in
    record {
      down = subst QuadsGoDown same s.down;
      reduced = subst QuadsAreReduced same s.reduced;
      once = subst StandOnce same s.once;
    }

pub returns : goal.returns
returns g c = each_same c.args.self.now.kept.keys c.in_ok-clone.field-0.keys c.in_ok-clone.ensures.cases
