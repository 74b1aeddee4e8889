use Rattle.std.proofs.Common.{◌∙◌, Some}
use Rattle.ticket_lock.proofs.Carried.{holds_it}
use Rattle.ticket_lock.proofs.place.look_at.Goals as goal

pub exchange-requires : goal.exchange-requires
exchange-requires g c =
    let e = c.is_turn.ensures.1.0 c.if-not-is_turn.false in
    (c.is_turn.ensures.0.0 ∙ c.requires.table.0, (Some e.0, holds_it _ _ _ _ e.1.0))
