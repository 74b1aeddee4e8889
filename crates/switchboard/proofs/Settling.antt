-- What the passes of a board know together at its end.
use Rattle.std.proofs.Common.{◌≡◌, ℕ, zero, suc, ◌<◌, Bool, true, false, not, List, [], ◌∷◌, ◌++◌, Some, length, slice_get, refl, sym, ap}
use Rattle.std.proofs.Common.{◌∙◌, subst, arith, All, eq-eqb, IsTrue}
use Rattle.std.specs.Prelude.{◌↔◌, Option}
use Rattle.std.proofs.lemmas.List.{append-nil, nil_from_length}
use Rattle.std.specs.Iterator.{Yields, Drains, HoldsAlong}
use Rattle.std.specs.Vec.Iter.{into_iter_items}
use Rattle.std.specs.declared.vec.IntoIter.{IntoIter}
use mathlib.Core.Option.{some}
use lib.ListN.{get_elem?}
use Rattle.atomic_table.specs.Seated.{TableId}
use Rattle.ticket_lock.specs.Lanes.{Standing}
use Rattle.ticket_lock.specs.Promises.{IsIdle, KeepsOwn, ComesLast}
use Rattle.post_ledger.specs.declared.event.Event.{Event}
use Rattle.post_ledger.specs.declared.entry.Entry.{Entry}
use Rattle.post_ledger.specs.Orders.{own, IsLawful, IsClosed}
use Rattle.post_ledger.proofs.Orders.{element_at}
use Rattle.switchboard.specs.Sights.{BoardState, Sight, Before, IsSound}
use Rattle.switchboard.specs.Books.{AreParts}
use Rattle.switchboard.specs.Promises.{AreAll, Settles}
use Rattle.switchboard.specs.Passes.{is_by, is_complete, share, Comes, IsPass}
use Rattle.switchboard.specs.Unwraps.{IsLaneOf, Unwraps}
use Rattle.switchboard.proofs.Visits.{showing, shows, complete_is, same_order}

pub get_front : {X : Type 0} (xs ys : List X) (j : ℕ) (x : X) → slice_get xs j ≡ Some x → slice_get (xs ++ ys) j ≡ Some x
get_front [] ys j x e = cc
get_front (z ∷ xs) ys zero x e = e
get_front (z ∷ xs) ys (suc j) x e = get_front xs ys j x e

module _ {M W : Type 0} (fits : W → ℕ → M → Type 0) where
  -- each lane is that of the pass beside it
  abbrev pub Pairs : List (Standing (BoardState M W)) → List (Sight M W) → Type 0
  Pairs [] [] = Unit {0}
  Pairs [] (p ∷ ps) = ⊥
  Pairs (x ∷ xs) [] = ⊥
  Pairs (x ∷ xs) (p ∷ ps) = IsLaneOf fits x p × Pairs xs ps

  module _ {S Z : Type 0} (of : S → IntoIter (Sight M W) Z) where
    abbrev Steps : S → Option (Standing (BoardState M W)) → S → Type 0
    Steps s r t = Unwraps fits (of s) r (of t)

    -- the lanes that came are those of the first passes
    front : (s : S) (xs : List (Standing (BoardState M W))) (t : S) → Yields Steps s xs t
        → (ps : List (Sight M W)) × (into_iter_items (of s) ≡ ps ++ into_iter_items (of t)) × Pairs xs ps
    front s [] t y = ([], ap (λ z. into_iter_items (of z)) y, tt)
    front s (x ∷ xs) t y = let step = y.1 in let rest = front y.0 xs t y.2 in
        (step.0 ∷ rest.0, step.1 ∙ ap (λ l. step.0 ∷ l) rest.1, (step.3, rest.2))

    -- all that came are those of all passes
    pub all_pairs : (s : S) (xs : List (Standing (BoardState M W))) → Drains Steps s xs → Pairs xs (into_iter_items (of s))
    all_pairs s xs d =
        let t = d.1.0 in
        let r = front s xs t d.1.1 in
        let none : into_iter_items (of t) ≡ [] = nil_from_length (into_iter_items (of t)) (omega (arith, d.1.2.0, (of t).rest.ok.0)) in
        subst (Pairs xs) (sym (r.1 ∙ (ap (λ l. r.0 ++ l) none ∙ append-nil r.0))) r.2

    -- a lane of a pass of this board is idle
    idle_of : (id : TableId) (x : Standing (BoardState M W)) (p : Sight M W) → IsLaneOf fits x p → p.board ≡ id → IsIdle id x
    idle_of id x p l board = (ap (λ (z : Sight M W). z.board) l.4 ∙ board, l.3.waits, l.3.outside)

    all_idle : (id : TableId) (xs : List (Standing (BoardState M W))) (ps : List (Sight M W)) → Pairs xs ps
        → ((j : ℕ) (p : Sight M W) → slice_get ps j ≡ Some p → p.board ≡ id) → All (IsIdle id) xs
    all_idle id [] ps pairs boards k d h = absurd (omega arith)
    all_idle id (x ∷ xs) [] pairs boards k d h = absurd pairs
    all_idle id (x ∷ xs) (p ∷ ps) pairs boards zero d h = idle_of id x p pairs.0 (boards 0 p refl)
    all_idle id (x ∷ xs) (p ∷ ps) pairs boards (suc k) d h = all_idle id xs ps pairs.1 (λ j. boards (suc j)) k d (omega arith)

    pub idle_along : (id : TableId) (boxes : ℕ) (s : S) → AreAll id boxes (into_iter_items (of s)) → HoldsAlong Steps s (All (IsIdle id))
    idle_along id boxes s all xs t y =
        let r = front s xs t y in
        all_idle id xs r.0 r.2
        (λ j p at. (all.1 j p (subst (λ l. slice_get l j ≡ Some p) (sym r.1) (get_front r.0 (into_iter_items (of t)) j p at))).0)

    same_length : (xs : List (Standing (BoardState M W))) (ps : List (Sight M W)) → Pairs xs ps → length xs ≡ length ps
    same_length [] [] pairs = refl
    same_length [] (p ∷ ps) pairs = absurd pairs
    same_length (x ∷ xs) [] pairs = absurd pairs
    same_length (x ∷ xs) (p ∷ ps) pairs = ap suc (same_length xs ps pairs.1)

    pub drained_length : (id : TableId) (boxes : ℕ) (s : S) → AreAll id boxes (into_iter_items (of s))
        → (xs : List (Standing (BoardState M W)))
        → Drains Steps s xs → length xs ≡ boxes
    drained_length id boxes s all xs d = same_length xs (into_iter_items (of s)) (all_pairs s xs d) ∙ all.0

  -- the lane beside a pass
  lane_at : (xs : List (Standing (BoardState M W))) (ps : List (Sight M W)) (j : ℕ) (p : Sight M W) → Pairs xs ps → slice_get ps j ≡ Some p
      → (x : Standing (BoardState M W)) × (get_elem? xs j ≡ some x) × IsLaneOf fits x p
  lane_at [] [] j p pairs at = cc
  lane_at [] (q ∷ ps) j p pairs at = absurd pairs
  lane_at (x ∷ xs) [] j p pairs at = absurd pairs
  lane_at (x ∷ xs) (q ∷ ps) zero p pairs at = (let same : q ≡ p = cc in (x, refl, subst (IsLaneOf fits x) same pairs.0))
  lane_at (x ∷ xs) (q ∷ ps) (suc j) p pairs at = lane_at xs ps j p pairs.1 at

  -- what one pass knows of the state at the end
  pub record Ends (p : Sight M W) (v : BoardState M W) : Type 0 where
    pub before : Before p.seen v
    pub sound : IsSound fits p.seen
    pub final : IsSound fits v
    pub known : p.knows ≡ is_complete p.seen.order
    pub own_list : own p.number v.order ≡ own p.number p.seen.order
    pub mine : is_by p.number v.aborted ≡ true → p.made ≡ true

  ends_at : (x : Standing (BoardState M W)) (w : W) (boxes : ℕ) (kept : Bool) (l : IsPass fits x w boxes kept) (v : BoardState M W)
      → Comes fits l.last v → share x.number v ≡ share x.number l.left → Ends (showing fits x kept l.last) v
  ends_at x w boxes kept l v comes part = record {
    before = comes.0;
    sound = l.sound;
    final = comes.1 l.sound;
    known = refl;
    own_list = ap (λ (q : List (Entry M) × Bool). q.0) (part ∙ sym l.own_part);
    mine = λ by. was kept (λ k. l.not_by k) (sym (ap (λ (q : List (Entry M) × Bool). q.1) part) ∙ by);
  }
    where
      was : (k : Bool) → (k ≡ true → is_by x.number l.left.aborted ≡ false) → is_by x.number l.left.aborted ≡ true → not k ≡ true
      was true f t = (let no_way = f refl in cc)
      was false f t = refl

  pub ends_of : (xs : List (Standing (BoardState M W))) (ps : List (Sight M W)) (v : BoardState M W) → Pairs xs ps → KeepsOwn share xs v
      → ComesLast (Comes fits) xs v → (j : ℕ) (p : Sight M W) → slice_get ps j ≡ Some p → Ends p v
  ends_of xs ps v pairs keeps comes j p at =
      let o = lane_at xs ps j p pairs at in
      let x = o.0 in
      let l = o.2.3 in
      let e = ends_at x o.2.0 o.2.1 o.2.2 l v (comes j x l.last o.1 l.ends) (keeps j x l.left o.1 l.has) in
      subst (λ q. Ends q v) (sym (shows fits x o.2.0 o.2.1 o.2.2 l) ∙ o.2.4) e

  pub settles_is : (id : TableId) (boxes : ℕ) (ps : List (Sight M W)) (xs : List (Standing (BoardState M W))) (v : BoardState M W)
      (histories : List (List (Event M))) (closed : Bool) → 0 < boxes → AreAll id boxes ps → Pairs xs ps → KeepsOwn share xs v
      → ComesLast (Comes fits) xs v
      → AreParts histories v → (IsTrue closed ↔ IsClosed v.order) → Settles fits boxes ps histories closed
  settles_is id boxes ps xs v histories closed some_of all pairs keeps comes parts close =
      let ends : (j : ℕ) (p : Sight M W) → slice_get ps j ≡ Some p → Ends p v = ends_of xs ps v pairs keeps comes in
      let first = element_at ps 0 (omega (arith, all.0)) in
      let e = ends 0 first.0 first.1 in
      let count : v.boxes ≡ boxes = e.before.boxes ∙ (all.1 0 first.0 first.1).2 in
      let law : IsLawful boxes v.order = subst (λ n. IsLawful n v.order) count e.final.lawful in
      record {
        order = v.order;
        lawful = law;
        fitting =
            λ j p at i to sender m t there. subst (λ w. fits w to m) (ends j p at).before.world (e.final.fitting i to sender m t there);
        begins = λ j p at. (ends j p at).before.order;
        own = λ j p at. subst (λ n. own n v.order ≡ own n p.seen.order) (all.1 j p at).1 (ends j p at).own_list;
        count = parts.count ∙ count;
        parts = parts.each;
        close = close;
        known = λ j p at done.
            let q = ends j p at in
            let closed_then = complete_is fits p.seen q.sound (sym (q.known) ∙ done) in
            close.1 (subst (λ l. IsClosed l)
            (sym (same_order fits p.seen v q.sound closed_then q.before q.final)) closed_then);
        aborts = λ j p a at is.
            let now = (ends j p at).before.aborted a is in
            let near : a.by < boxes = subst (λ n. a.by < n) count (e.final.by a now) in
            let who = element_at ps a.by (omega (arith, all.0)) in
            let number = (all.1 a.by who.0 who.1).1 in
            (who.0, who.1, (ends a.by who.0 who.1).mine (ap (is_by who.0.number) now ∙ eq-eqb a.by who.0.number (sym number)));
      }
