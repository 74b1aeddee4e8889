use Rattle.stack_sets.specs.Nodes.{nodes_in}
use Rattle.naming.proofs.MoveLemmas.{prefix_same}
use Rattle.naming.proofs.keeping.keep_some.Goals as goal

pub loop-index-init : goal.loop-index-init
loop-index-init g c = record { kept = c.requires; keeps = prefix_same (nodes_in c.args.sets.now) }
