use Rattle.std.proofs.Common.{refl}
use Rattle.path_sets.specs.GatheredKeys.{gathered_key_eq}
use Rattle.path_sets.proofs.EdgesLemmas.{pair_at}
use Rattle.path_sets.proofs.PlaceLemmas.{at_index}
use Rattle.path_sets.proofs.KeyLemmas.{not_found}
use Rattle.path_sets.proofs.GatheredKeyLemmas.{gathered_key_self, same_gathered_key}
use Rattle.path_sets.proofs.diagrams.batch.Batch.mask.Goals as goal

pub find-requires : goal.find-requires
find-requires g c = same_gathered_key

pub returns-in-Some-clause-some : goal.returns-in-Some-clause-some
returns-in-Some-clause-some g c =
    let es = c.args.self.now.masks.entries in
    at_index es (c.args.key.now, c.index.result.now) c.in-Some.at
    (pair_at es c.in-Some.at c.args.key.now c.index.result.now c.in-Some.ensures.here c.index.ensures)

pub returns-in-None-clause-none : goal.returns-in-None-clause-none
returns-in-None-clause-none g c _ there =
    not_found gathered_key_eq gathered_key_self c.args.self.now.masks.entries c.args.key.now (c.in-None.ensures.none refl) there
