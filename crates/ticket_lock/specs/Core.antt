-- The rule of a ticket lock, which holds between any two steps (Mellor-Crummey and Scott 1991).
use Rattle.std.specs.Prelude.{◌≡◌, ◌⊎◌, ℕ, ◌+◌, ◌*◌, ◌^◌, ◌<◌, ◌≤◌, List, [], ◌∷◌, length, Option, Some}
use mathlib.Core.Option as maybe
use mathlib.Core.Option.{some}
use lib.ListN.{get_elem?}
use Rattle.ticket_lock.specs.declared.hand.Hand.{Hand}
use Rattle.ticket_lock.specs.Count.{times, total}
use Rattle.ticket_lock.specs.History.{StartsWith, EndsIn}

module _ {T : Type 0} where
  -- how often a hand has the ticket, waiting or inside
  abbrev pub in_hand : ℕ → Hand T → ℕ
  in_hand ticket hand = times ticket hand.tickets + times ticket hand.inside

  -- a hand has seen a prefix of the history, and the whole of it while it is inside, which it is with the ticket that
  -- is served; it draws no more than its share, and nothing without one
  pub record Fits (serving : ℕ) (log : List T) (hand : Hand T) : Type 0 where
    pub begins : StartsWith log hand.seen
    pub inside : (hand.inside ≡ []) ⊎ ((hand.inside ≡ serving ∷ []) × (hand.seen ≡ log))
    pub few : length hand.drawn ≤ hand.parts * 2 ^ 56
    pub idle : hand.parts ≡ 0 → (hand.tickets ≡ []) × (hand.inside ≡ [])

  -- the history has the opening value and one value for each ticket served; each ticket from `serving` up to but
  -- not including `next` is in one hand, and no other ticket is; each ticket below `next` was drawn once, and no
  -- other was; if nobody is inside, the value that lies at home is the last of the history
  pub record TicketCore (serving next : ℕ) (log : List T) (here : maybe.Option (maybe.Option (Option T)))
      (hands : List (Hand T)) : Type 0 where
    pub served : length log ≡ serving + 1
    pub order : serving ≤ next
    pub held : (ticket : ℕ) → serving ≤ ticket → ticket < next → total (in_hand ticket) hands ≡ 1
    pub past : (ticket : ℕ) → ticket < serving → total (in_hand ticket) hands ≡ 0
    pub ahead : (ticket : ℕ) → next ≤ ticket → total (in_hand ticket) hands ≡ 0
    pub drawn_once : (ticket : ℕ) → ticket < next → total (λ hand. times ticket hand.drawn) hands ≡ 1
    pub undrawn : (ticket : ℕ) → next ≤ ticket → total (λ hand. times ticket hand.drawn) hands ≡ 0
    pub drawn : total (λ hand. length hand.drawn) hands ≡ next
    pub parts : total (λ hand. hand.parts) hands ≤ 64
    pub each : (place : ℕ) (hand : Hand T) → get_elem? hands place ≡ some hand → Fits serving log hand
    pub home : total (λ hand. length hand.inside) hands ≡ 0 → (value : T) × EndsIn log value × (here ≡ some (some (Some value)))
