use Rattle.std.proofs.Common.{sym, ◌∙◌}
use Rattle.saturation.proofs.FollowLemmas.{at_ok}
use Rattle.saturation.proofs.CallLemmas.{lists_top, old_is_no_call}
use Rattle.saturation.proofs.working.leave.Goals as goal

pub returns-in-Old-clause-listed : goal.returns-in-Old-clause-listed
returns-in-Old-clause-listed g c =
    at_ok c.leave_node.result
    (lists_top c.args.calls.now c.args.top (λ entry over exit. old_is_no_call c.in-Old.number entry (sym c.in-Old.is ∙ over)))
