use Rattle.std.proofs.Common.{ℕ, ◌≤◌, subst, length, map, get_or, ◌+◌}
use lib.ListN.{get_elem?}
use Rattle.ticket_lock.proofs.HistoryFacts.{total-map}
use Rattle.ticket_lock.proofs.CoreSteps.{at_most_one}
use Rattle.ticket_lock.proofs.one.at_most_one_guard.Goals as goal

pub returns : goal.returns
returns g c = λ key word slot s place ok.
    let o = g.met.P.LockRule.opens key word slot place s ok in
    let see = g.P.LockRule.see slot in
    subst (λ (n : ℕ). n ≤ 1) (total-map see (λ h. length h.inside) s.views)
    (at_most_one (get_or s.words word 0) (get_or s.words (word + 1) 0) o.0 (get_elem? s.homes slot) (map see s.views) o.1.core)
