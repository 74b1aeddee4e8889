-- Each number is at most once in all hands, and among all that was drawn.
use Rattle.std.proofs.Common.{ℕ, ◌≤◌, subst, map, get_or, ◌+◌}
use lib.ListN.{get_elem?}
use Rattle.ticket_lock.specs.Count.{times}
use Rattle.ticket_lock.specs.Core.{in_hand}
use Rattle.ticket_lock.proofs.HistoryFacts.{total-map}
use Rattle.ticket_lock.proofs.CoreSteps.{held_once, drawn_at_most_once, not_drawn_before}
use Rattle.ticket_lock.proofs.one.no_number_twice.Goals as goal

pub returns-clause-held : goal.returns-clause-held
returns-clause-held g c = λ key word slot s place ok number.
    let o = g.met.P.LockRule.opens key word slot place s ok in
    let see = g.P.LockRule.see slot in
    subst (λ (n : ℕ). n ≤ 1) (total-map see (in_hand number) s.views)
    (held_once (get_or s.words word 0) (get_or s.words (word + 1) 0) o.0 (get_elem? s.homes slot) (map see s.views)
    o.1.core number)

pub returns-clause-drawn : goal.returns-clause-drawn
returns-clause-drawn g c = λ key word slot s place ok number.
    let o = g.met.P.LockRule.opens key word slot place s ok in
    let see = g.P.LockRule.see slot in
    subst (λ (n : ℕ). n ≤ 1) (total-map see (λ h. times number h.drawn) s.views)
    (drawn_at_most_once (get_or s.words word 0) (get_or s.words (word + 1) 0) o.0 (get_elem? s.homes slot)
    (map see s.views) o.1.core number)

pub returns-clause-fresh : goal.returns-clause-fresh
returns-clause-fresh g c = λ key word slot s t place ok number seat drew.
    let o = g.met.P.LockRule.opens key word slot place t ok in
    let see = g.P.LockRule.see slot in
    not_drawn_before see seat number s t drew
    (subst (λ (n : ℕ). n ≤ 1) (total-map see (λ h. times number h.drawn) t.views)
    (drawn_at_most_once (get_or t.words word 0) (get_or t.words (word + 1) 0) o.0 (get_elem? t.homes slot)
    (map see t.views) o.1.core number))
