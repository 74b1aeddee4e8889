-- If each procedure has what is owed to it, and nothing that is not due, it has what is due.
use Rattle.std.proofs.Common.{◌≡◌, ◌↔◌, ℕ, List, Bool, Option, sym, subst, slice_get}
use Rattle.language.specs.Tree.{done}
use Rattle.language.specs.Rest.{Code}
use Rattle.language.specs.Step.{Program, result_of}
use Rattle.language.specs.Sequential.{Valuation, point_of, Edge, Exit, Pair, Message, IsDue}
use Rattle.language.specs.Messages.{Reached, AreDue, HasOpening, HasOwed, EdgeTo}
use Rattle.language.proofs.Sound.{inside_edge, edge_inside, some_edge, edge_some, pair_inside, inside_pair, reached_inside}
use Rattle.language.proofs.Complete.{inside_reached, due_had}

pub reached_edge : (p : Program) (q : ℕ) (M : Message → Type 0) → AreDue p q M → (a v : Valuation) (r : Code) → Reached p q M a v r
    → EdgeTo p q a v r
reached_edge p q M due a v r reached = inside_edge p q a v r (reached_inside p q M due a v r reached)

pub edge_reached : (p : Program) (M : ℕ → Message → Type 0) → HasOpening p M → HasOwed p M → (q : ℕ) (a v : Valuation) (r : Code) →
    EdgeTo p q a v r → Reached p q (M q) a v r
edge_reached p M opened closed q a v r edge = inside_reached p M opened closed q a v r (edge_inside p q a v r edge)

pub gathered : (p : Program) (M : ℕ → Message → Type 0) → HasOpening p M → HasOwed p M → ((q : ℕ) → AreDue p q (M q)) → (q : ℕ) →
    ((m : Message) → M q m ↔ IsDue p q m) × ((a v : Valuation) (r : Code) → Reached p q (M q) a v r ↔ EdgeTo p q a v r)
gathered p M opened closed due q = (
  λ m. (due q m, due_had p M opened closed q m),
  λ a v r. (reached_edge p q (M q) (due q) a v r, edge_reached p M opened closed q a v r),
)

-- a path edge at a point has something left to run at that point
pub edge_point : (p : Program) (q : ℕ) (a v : Valuation) (point : Option ℕ)
    → Edge p q a point v ↔ ((r : Code) × (point ≡ point_of r) × EdgeTo p q a v r)
edge_point p q a v point = (
  λ edge. let (r, at, inside) = edge_some p q a v point edge in (r, at, inside_edge p q a v r inside),
  λ h. some_edge p q a v point h.0 h.1 (edge_inside p q a v h.0 h.2),
)

-- a pair has nothing left to run
pub pair_exit : (p : Program) (q : ℕ) (a : Valuation) (b : Exit) →
    Pair p q a b
    ↔ ((l : List Bool) × (b.result ≡ result_of (slice_get p.routines q) l)
    × EdgeTo p q a (record { globals = b.globals; places = l }) done)
pair_exit p q a b = (
  λ pair. let (l, result, inside) = pair_inside p q a b pair in
      (l, result, inside_edge p q a (record { globals = b.globals; places = l }) done inside),
  λ h. subst (λ z. Pair p q a (record { globals = b.globals; result = z })) (sym h.1)
      (inside_pair p q a (record { globals = b.globals; places = h.0 })
      (edge_inside p q a (record { globals = b.globals; places = h.0 }) done h.2)),
)
