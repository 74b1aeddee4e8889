use Rattle.path_sets.proofs.GatherLemmas.{covers_at, gathers_at, keys_at}
use Rattle.path_sets.proofs.RootLemmas.{key_within}
use Rattle.path_sets.proofs.diagrams.batch.Batch.gather_at.Goals as goal

pub returns-clause-ok : goal.returns-clause-ok
returns-clause-ok g c =
    gathers_at c.requires.may c.add_point_at.new.masks.entries c.args.at c.requires.here c.add_point_at.result
    c.add_point_at.ensures.adds

pub returns-clause-covers : goal.returns-clause-covers
returns-clause-covers g c =
    covers_at c.requires.may c.add_point_at.new.masks.entries c.args.at c.requires.here c.add_point_at.result
    c.add_point_at.ensures.adds

pub returns-clause-keys : goal.returns-clause-keys
returns-clause-keys g c =
    keys_at c.requires.may c.add_point_at.new.masks.entries c.args.at c.requires.here c.add_point_at.result
    c.add_point_at.ensures.adds

pub add_point_at-requires-clause-bit : goal.add_point_at-requires-clause-bit
add_point_at-requires-clause-bit g c = c.requires.may.small

pub add_point_at-requires-clause-within : goal.add_point_at-requires-clause-within
add_point_at-requires-clause-within g c = key_within c.args.self.now.masks.entries c.args.at c.args.key c.requires.here

pub add_point_at-requires-clause-unique : goal.add_point_at-requires-clause-unique
add_point_at-requires-clause-unique g c = c.args.self.now.unique

pub invariant_of-self : goal.invariant_of-self
invariant_of-self g c = record { unique = c.add_point_at.ensures.unique }

pub returns-clause-same : goal.returns-clause-same
returns-clause-same g c = c.add_point_at.ensures.keys
