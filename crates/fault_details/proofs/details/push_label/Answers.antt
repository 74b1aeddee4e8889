use Rattle.std.proofs.Common.{rules}
use Rattle.fault_details.proofs.details.push_label.Goals as goal

pub returns : goal.returns
returns g c = search rules
