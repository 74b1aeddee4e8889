use Rattle.std.proofs.Common.{◌≡◌, ◌∷◌, sym, ap, subst}
use Rattle.ticket_lock.specs.History.{EndsIn}
use Rattle.ticket_lock.specs.Turns.{passes}
use Rattle.ticket_lock.proofs.Carried.{holds_it}
use Rattle.ticket_lock.proofs.place.leave_at.Goals as goal

pub serve_next_at-requires-clause-inside : goal.serve_next_at-requires-clause-inside
serve_next_at-requires-clause-inside g c =
    let P = g.P.LockRule in
    let slot = c.args.slot in
    let x = c.exchange-found.ensures in
    let first : c.exchange-found.new.seat.me.0 ≡ c.args.seat.now.me.0 = ap (λ m. m.0) x.3 in
    let inside = c.requires.inside in (
      c.args.value,
      holds_it _ _ _ _ (ap (λ m. m.1) x.3),
      (inside.0, subst (λ v. (P.see slot v).inside ≡ inside.0 ∷ _) (sym first) inside.1),
      subst (λ v. (y : _) → EndsIn (P.see slot v).seen y → P.asks slot (passes y c.args.value) v) (sym first) c.requires.asks,
    )
