-- A seat of the board with a lock for each mailbox may be cut in two, and take in another.
use Rattle.std.proofs.Common.{◌≡◌, ◌≢◌, inl, inr, ℕ, zero, suc, ◌+◌, ◌<◌, List, [], ◌∷◌, ◌++◌, map, length, set, get_or}
use Rattle.std.proofs.Common.{refl, sym, ap, ◌∙◌, subst, arith, Option, length-append}
use Rattle.std.proofs.lemmas.List.{append-nil, map_push, map-append}
use mathlib.Core.Option.{some, some-ne-none}
use lib.ListN.{get_elem?}
use Rattle.atomic_table.specs.Table as table
use Rattle.ticket_lock.specs.declared.hand.Hand.{Hand}
use Rattle.ticket_lock.specs.Count.{times, total}
use Rattle.ticket_lock.specs.Core.{TicketCore}
use Rattle.ticket_lock.specs.Proved.Facts.{total_set, at_set, at_snoc, set_else, map-set}
use Rattle.ticket_lock.proofs.HistoryFacts.{total-snoc, at_append}
use Rattle.ticket_lock.specs.Proved.Facts.{at-map}
use Rattle.ticket_lock.proofs.HistoryFacts.{times-append}
use Rattle.ticket_lock.proofs.HandLemmas.{Unites, Divides, core_splits, core_joins, divides_idle}
use Rattle.post_ledger.specs.declared.event.Event.{Event}
use Rattle.post_ledger.specs.declared.entry.Entry.{Entry}
use Rattle.switchboard.specs.declared.calls.Abort.{Abort}
use Rattle.switchboard.specs.declared.lock_per_box.knowing.Ground.{Ground}
use Rattle.switchboard.specs.declared.lock_per_box.knowing.Seen.{Seen}
use Rattle.switchboard.specs.declared.lock_per_box.knowing.Own.{Own}
use Rattle.switchboard.specs.Knowing.{fresh_hand, merged_hands, unseen, made_by, hand_at, pass_numbers, makes, only_seen, merged_seats}
use Rattle.switchboard.specs.PerBox.{SeatView, word_of, LockStands, Saw, KnowsBoard, Rule, Boxes}

module _ {T : Type 0} where
  -- merged hands have at each place what both had there
  pub merged_is : (hs ks : List (Hand T)) (q : ℕ)
      → Unites (get_or hs q (fresh_hand 0)) (get_or ks q (fresh_hand 0)) (get_or (merged_hands hs ks) q (fresh_hand 0))
  merged_is [] ks q = record { tickets = refl; inside = refl; drawn = refl; parts = omega arith; seen = inr refl }
  merged_is (h ∷ hs) [] q =
      let x : Hand T = get_or (h ∷ hs) q (fresh_hand 0) in
      record {
        tickets = sym (append-nil x.tickets);
        inside = sym (append-nil x.inside);
        drawn = sym (append-nil x.drawn);
        parts = omega arith;
        seen = inl refl;
      }
  merged_is (h ∷ hs) (k ∷ ks) zero = record { tickets = refl; inside = refl; drawn = refl; parts = refl; seen = inl refl }
  merged_is (h ∷ hs) (k ∷ ks) (suc q) = merged_is hs ks q

module _ {M W : Type 0} (fits : W → ℕ → M → Type 0) (g : Ground M W) where
  -- nothing was seen
  pub saw_none : (order : List (Entry M)) (first : Option Abort) (low : ℕ) → Saw fits g order first low unseen
  saw_none order first low = record { begins = (order, refl); sound = λ e. absurd (omega arith); aborted = λ a e. cc; close = λ e. cc }

  -- a seat that has nothing, and saw this
  pub knows_only : (order : List (Entry M)) (first : Option Abort) (low : ℕ) (x : Seen M) → Saw fits g order first low x
      → KnowsBoard fits g order first low (only_seen x)
  knows_only order first low x saw = record {
    board = λ i k e. absurd (some-ne-none k (sym e));
    saw = saw;
    told = saw_none order first low;
    owns = λ k o e. absurd (some-ne-none o (sym e));
    parts = λ q near. refl;
    idle = λ e. refl;
  }

  module _ (s : Boxes M W) (r : Rule fits g s) (id : ℕ) (v : SeatView M W) (is_at : get_elem? s.views id ≡ some v) where
    abbrev Core : ℕ → List (List (Event M)) → List (Hand (List (Event M))) → Type 0
    Core q log = TicketCore (get_or s.words (word_of q) 0) (get_or s.words (word_of q + 1) 0) log (get_elem? s.homes q)

    -- a lock whose hands become others stands, if they keep its core
    stands_with : (q : ℕ) → q < g.boxes → (hands new : List (Hand (List (Event M)))) → new ≡ hands
        → ((log : List (List (Event M))) → Core q log (map (hand_at q) s.views) → Core q log hands)
        → LockStands q r.order s.words s.homes new
    stands_with q near hands new same keeps =
        let l = r.locks q near in
        (l.0, record { room = l.1.room; core = subst (Core q l.0) (sym same) (keeps l.0 l.1.core) }, l.2)

    -- a seat cut in two
    pub splits : (a b : SeatView M W) → ((q : ℕ) → q < g.boxes → Divides (hand_at q v) (hand_at q a) (hand_at q b))
        → KnowsBoard fits g r.order r.first r.low a → KnowsBoard fits g r.order r.first r.low b
        → ((n : ℕ) → times n (pass_numbers a) + times n (pass_numbers b) ≡ times n (pass_numbers v))
        → length a.lanes + length b.lanes ≡ length v.lanes
        → ((n : ℕ) → makes n a + makes n b ≡ makes n v)
        → a.owes + b.owes ≡ v.owes → a.budget + b.budget ≡ v.budget
        → Rule fits g record { words = s.words; homes = s.homes; views = set s.views id a ++ b ∷ [] }
    splits a b hands knows_a knows_b names lens made owes budget =
        let sum : (f : SeatView M W → ℕ) → f a + f b ≡ f v → total f (set s.views id a ++ b ∷ []) ≡ total f s.views =
        λ f e. omega (arith, total-snoc f (set s.views id a) b, total_set f s.views id v a is_at) in
        record {
          order = r.order;
          first = r.first;
          low = r.low;
          sound = r.sound;
          locks = λ q near.
              stands_with q near _ _
              (map_push (hand_at q) (set s.views id a) b ∙ ap (λ l. l ++ hand_at q b ∷ []) (map-set (hand_at q) s.views id a))
              (λ log core. core_splits _ _ log _ (map (hand_at q) s.views) id (hand_at q v) (hand_at q a) (hand_at q b)
              (at-map (hand_at q) s.views id v is_at) (hands q near) core);
          some_word = r.some_word;
          word = r.word;
          count = omega (arith, sum (λ (u : SeatView M W). u.owes) owes, r.count);
          few = omega (arith, sum (λ (u : SeatView M W). u.budget) budget, r.few);
          each = λ j u e. elim (at_snoc (set s.views id a) b u j e) [
            | inl t ↦ subst (λ z. KnowsBoard fits g r.order r.first r.low z) t.1 knows_b
            | inr t ↦
                elim (at_set s.views id j a u t) [
                  | inl q ↦ subst (λ z. KnowsBoard fits g r.order r.first r.low z) q.1 knows_a
                  | inr q ↦ r.each j u q.1
                ]
          ];
          once = λ n. omega (arith, sum (λ (u : SeatView M W). times n (pass_numbers u)) (names n), r.once n);
          whole = sum (λ (u : SeatView M W). length u.lanes) lens ∙ r.whole;
          maker = λ c e. omega (arith, sum (makes c.by) (made c.by), r.maker c e);
        }

    -- a seat tells what it has seen
    pub tells : Rule fits g record { words = s.words; homes = s.homes; views = set s.views id v ++ only_seen v.seen ∷ [] }
    tells =
        let k = r.each id v is_at in
        splits v (only_seen v.seen) (λ q near. divides_idle (hand_at q v) [] (λ log b. (log, refl))) k
        (knows_only r.order r.first r.low v.seen k.saw) (λ n. omega arith) (omega arith) (λ n. omega arith) (omega arith) (omega arith)

    -- a seat takes in all that another has, if both are outside
    pub joins : (other : ℕ) (w : SeatView M W) → other ≢ id → get_elem? s.views other ≡ some w
        → ((q : ℕ) → q < g.boxes → (hand_at q v).inside ≡ []) → ((q : ℕ) → q < g.boxes → (hand_at q w).inside ≡ [])
        → Rule fits g record { words = s.words; homes = s.homes; views = set (set s.views id (merged_seats v w)) other (only_seen unseen) }
    joins other w ne at_w out_v out_w =
        let u : SeatView M W = merged_seats v w in
        let z : SeatView M W = only_seen unseen in
        let kv = r.each id v is_at in
        let kw = r.each other w at_w in
        let there : get_elem? (set s.views id u) other ≡ some w = set_else s.views id other u ne ∙ at_w in
        let sum : (f : SeatView M W → ℕ) → f z ≡ 0 → f u ≡ f v + f w → total f (set (set s.views id u) other z) ≡ total f s.views =
        λ f none e. omega (arith, total_set f s.views id v u is_at, total_set f (set s.views id u) other w z there) in
        let knows_u : KnowsBoard fits g r.order r.first r.low u = record {
          board = λ i k e. elim (at_append v.boards w.boards i k e) [ inl t ↦ kv.board i k t | inr t ↦ kw.board t.0 k t.1 ];
          saw = kv.saw;
          told = kw.saw;
          owns = λ i o e. elim (at_append v.lanes w.lanes i o e) [ inl t ↦ kv.owns i o t | inr t ↦ kw.owns t.0 o t.1 ];
          parts = λ q near. let one = merged_is v.hands w.hands q in
              omega (arith, one.parts, kv.parts q near, kw.parts q near, length-append v.lanes w.lanes);
          idle =
              λ e.
              omega (
                arith,
                length-append v.lanes w.lanes,
                kv.idle (omega (arith, length-append v.lanes w.lanes)),
                kw.idle (omega (arith, length-append v.lanes w.lanes)),
              );
        } in
        record {
          order = r.order;
          first = r.first;
          low = r.low;
          sound = r.sound;
          locks = λ q near.
              stands_with q near _ _
              (map-set (hand_at q) (set s.views id u) other z ∙ ap (λ l. set l other (fresh_hand 0)) (map-set (hand_at q) s.views id u))
              (λ log core. core_joins _ _ log _ (map (hand_at q) s.views) id other (hand_at q v) (hand_at q w) (hand_at q u)
              (at-map (hand_at q) s.views id v is_at) ne (at-map (hand_at q) s.views other w at_w)
              (merged_is v.hands w.hands q) (inl (out_v q near)) (out_w q near) core);
          some_word = r.some_word;
          word = r.word;
          count = omega (arith, sum (λ (x : SeatView M W). x.owes) refl refl, r.count);
          few = omega (arith, sum (λ (x : SeatView M W). x.budget) refl refl, r.few);
          each = λ j x e. elim (at_set (set s.views id u) other j z x e) [
            | inl t ↦
                subst (λ k. KnowsBoard fits g r.order r.first r.low k) t.1
                (knows_only r.order r.first r.low unseen (saw_none r.order r.first r.low))
            | inr t ↦
                elim (at_set s.views id j u x t.1) [
                  | inl q ↦ subst (λ k. KnowsBoard fits g r.order r.first r.low k) q.1 knows_u
                  | inr q ↦ r.each j x q.1
                ]
          ];
          once =
              λ n.
              omega (
                arith,
                sum (λ (x : SeatView M W). times n (pass_numbers x)) refl
                    (ap (times n) (map-append (λ (o : Own M). o.number) v.lanes w.lanes)
                    ∙ times-append n (pass_numbers v) (pass_numbers w)),
                r.once n,
              );
          whole = sum (λ (x : SeatView M W). length x.lanes) refl (length-append v.lanes w.lanes) ∙ r.whole;
          maker = λ c e. omega (arith, sum (makes c.by) refl (total-append (made_by c.by) v.lanes w.lanes), r.maker c e);
        }
      where
        total-append : {A : Type 0} (f : A → ℕ) (a b : List A) → total f (a ++ b) ≡ total f a + total f b
        total-append f [] b = omega arith
        total-append f (x ∷ a) b = omega (arith, total-append f a b)

  pub tells_allowed : (id : ℕ) (v : SeatView M W) → table.Splits (Rule fits g) id v v (only_seen v.seen)
  tells_allowed id v s r is_at = tells s r id v is_at

  pub joins_allowed : (id other : ℕ) (v w : SeatView M W) → ((q : ℕ) → q < g.boxes → (hand_at q v).inside ≡ [])
      → ((q : ℕ) → q < g.boxes → (hand_at q w).inside ≡ []) → table.Joins (Rule fits g) id v other w (merged_seats v w) (only_seen unseen)
  joins_allowed id other v w out_v out_w s r is_at ne at_other =
      joins s r id v is_at other w ne (sym (set_else s.views id other (merged_seats v w) ne) ∙ at_other) out_v out_w
