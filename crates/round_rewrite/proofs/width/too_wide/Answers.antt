use Rattle.std.proofs.Common.{rules}
use Rattle.round_rewrite.proofs.width.too_wide.Goals as goal

pub returns : goal.returns
returns g c = search rules
