use Rattle.stack_sets.specs.Nodes.{nodes_in}
use Rattle.naming.proofs.MoveLemmas.{prefix_same}
use Rattle.naming.proofs.keeping.keep_most.Goals as goal

pub loop-init : goal.loop-init
loop-init g c = record { kept = c.requires; keeps = prefix_same (nodes_in c.args.sets.now) }
