use Rattle.std.proofs.Common.{◌∙◌}
use Rattle.switchboard.proofs.Opening.{on_ok, map_same}
use Rattle.switchboard.proofs.lock_per_box.board.LockPerBoxBoard.open_with_budget.Goals as goal

pub returns : goal.returns
returns g c = on_ok c.of-2.result _ _ (λ r h. (h.0, map_same r.1.items ∙ h.1)) c.of-2.ensures
