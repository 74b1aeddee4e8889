use Rattle.std.proofs.Common.{refl}
use Rattle.summaries.proofs.table.Table.reach_next.Goals as goal

pub returns : goal.returns
returns g c = record { adds = c.reach_next.ensures.adds; rest = refl }
