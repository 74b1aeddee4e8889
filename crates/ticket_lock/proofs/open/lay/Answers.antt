use Rattle.std.proofs.Common.{sym, ◌∙◌, ap, subst, arith, Some, [], ◌∷◌}
use Rattle.atomic_table.specs.Table.{opening}
use Rattle.ticket_lock.specs.Lone.{Lone, new_view, lanes_from}
use Rattle.ticket_lock.proofs.LoneOpening.{opens}
use Rattle.ticket_lock.proofs.open.lay.Goals as goal

pub new-requires : goal.new-requires
new-requires g c =
    let L = g.T.LaneLaw in
    let x = c.of.result.value in
    let lanes = c.from.result in
    let items = c.in_ok-slots.ensures.ok ∙ ap (λ z. Some z ∷ []) (sym c.of.ensures) in
    subst (λ l. Lone L.before L.part x lanes (opening (0 ∷ 0 ∷ []) l (new_view (x ∷ []) (lanes_from 0 lanes x)))) (sym items)
    (opens L.before L.part L.reflexive x lanes (omega arith) (omega arith))
