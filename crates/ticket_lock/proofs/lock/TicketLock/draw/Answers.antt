-- One more ticket is drawn, and the lane may draw one fewer.
use Rattle.std.proofs.Common.{◌∙◌, ap, sym, subst, length, arith}
use Rattle.std.proofs.lemmas.List.{length_push}
use Rattle.ticket_lock.specs.Lanes.{IsLockTable}
use Rattle.ticket_lock.proofs.lock.TicketLock.draw.Goals as goal

pub invariant_of-lane : goal.invariant_of-lane
invariant_of-lane g c =
    let was = c.lane.invariant in
    let drew = c.draw_at-number.ensures.1 in
    let hand = drew.1.0 in
    let more = length_push c.lane.inside.seat.me.0.hand.drawn c.draw_at-number.result in
    record {
      one = (was.one.0, drew.2.1 ∙ was.one.1);
      taken = drew.2.0 ∙ was.taken;
      share = ap (λ h. h.parts) hand ∙ was.share;
      budget = omega (arith, ap (λ h. length h.drawn) hand, more, was.budget);
      sized = subst IsLockTable (sym c.draw_at-number.ensures.0.0) was.sized;
      outside = λ none. drew.0 ∙ was.outside (sym (ap (λ h. h.inside) hand) ∙ none);
      inside = λ ticket is. drew.0 ∙ was.inside ticket (sym (ap (λ h. h.inside) hand) ∙ is);
    }
