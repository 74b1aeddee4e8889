use Rattle.std.proofs.Common.{◌++◌, refl}
use Rattle.stack_sets.specs.Nodes.{nodes_in}
use Rattle.stack_sets.proofs.WithinLemmas.{noted, simulated}
use Rattle.stack_sets.proofs.inclusions.Inclusions.is_noted.Goals as goal

pub returns-clause-known : goal.returns-clause-known
returns-clause-known g c =
    noted (nodes_in c.args.sets.now ++ c.args.more.now) c.args.pairs.now.keys c.args.self.now.found.keys c.requires.known
    (c.if-not-is_simulation.ensures refl) c.note_all.new.self.found.keys c.in_ok-note_all.ensures

pub returns-clause-within : goal.returns-clause-within
returns-clause-within g c t =
    simulated (nodes_in c.args.sets.now ++ c.args.more.now) c.args.pairs.now.keys c.args.self.now.found.keys c.requires.known
    (c.if-not-is_simulation.ensures refl)
