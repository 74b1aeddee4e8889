-- What a step of one seat keeps of the rule of a board with a lock for each mailbox.
use Rattle.std.proofs.Common.{◌≡◌, ◌≢◌, ◌⊎◌, inl, inr, ℕ, zero, suc, ◌+◌, ◌<◌, ◌≤◌, true, false, List, [], ◌∷◌}
use Rattle.std.proofs.Common.{map, length, set, get_or, Some, refl, sym, ap, ◌∙◌, subst, arith, Option, length-set}
use Rattle.std.proofs.Common.{get_or-set_other, get_or-set_same}
use Rattle.std.proofs.lemmas.List.{get_or_past}
use mathlib.Core.Option.{some, some-injective, some-ne-none}
use mathlib.Core.Logic.{dite}
use native.Mathlib.Decide.{ℕ_discrete, dec_le}
use lib.ListN.{get_elem?}
use Rattle.ticket_lock.specs.declared.hand.Hand.{Hand}
use Rattle.ticket_lock.specs.Count.{times, total}
use Rattle.ticket_lock.specs.History.{StartsWith, EndsIn}
use Rattle.ticket_lock.specs.Core.{TicketCore}
use Rattle.ticket_lock.specs.Turns.{Kept}
use Rattle.ticket_lock.specs.Proved.Facts.{total_set, total_two, at_set, set_again, map-set, at-map, times-one, StartsWith-refl}
use Rattle.ticket_lock.specs.Proved.Facts.{StartsWith-trans}
use Rattle.post_ledger.specs.declared.event.Event.{Event}
use Rattle.post_ledger.specs.declared.entry.Entry.{Entry}
use Rattle.post_ledger.specs.History.{posts, dones}
use Rattle.post_ledger.specs.Orders.{part, own, posted, completed, IsLawful, IsClosed}
use Rattle.post_ledger.proofs.Orders.{sum_le, posted_is, completed_is, sizes_of, dones_few, counted_closed}
use Rattle.switchboard.specs.declared.calls.Abort.{Abort}
use Rattle.switchboard.specs.declared.lock_per_box.knowing.Ground.{Ground}
use Rattle.switchboard.specs.declared.lock_per_box.knowing.Seen.{Seen}
use Rattle.switchboard.specs.declared.lock_per_box.knowing.Own.{Own}
use Rattle.switchboard.specs.Sights.{IsSound}
use Rattle.switchboard.specs.Knowing.{fresh_hand, state_of, hand_at, with_hand, pass_numbers, makes}
use Rattle.switchboard.specs.PerBox.{SeatView, word_of, flag, Saw, KnowsBoard, LockStands, Rule, News, Boxes, Slots, owed}

module _ {M W : Type 0} where
  pub hand_here : (q : ℕ) (h : Hand (List (Event M))) (v : SeatView M W) → q < length v.hands → hand_at q (with_hand q h v) ≡ h
  hand_here q h v short = get_or-set_same v.hands q h (fresh_hand 0) short

  pub hand_else : (q k : ℕ) (h : Hand (List (Event M))) (v : SeatView M W) → k ≢ q → hand_at k (with_hand q h v) ≡ hand_at k v
  hand_else q k h v ne = get_or-set_other v.hands q k h (fresh_hand 0) ne

  -- a hand that has something is one of the list
  pub has_hand : (f : Hand (List (Event M)) → ℕ) (q : ℕ) (v : SeatView M W) → f (fresh_hand 0) ≡ 0 → 0 < f (hand_at q v)
      → q < length v.hands
  has_hand f q v none some_of = elim (dec_le (length v.hands) q) [
    | no d ↦ omega arith
    | yes d ↦ (let is : f (hand_at q v) ≡ 0 = ap f (get_or_past v.hands q (fresh_hand 0) d) ∙ none in absurd (omega arith))
  ]

module _ {M : Type 0} where
  -- a pass of a seat is among its numbers
  pub number_in : (l : List (Own M)) (k : ℕ) (o : Own M) → get_elem? l k ≡ some o → 0 < times o.number (map (λ (x : Own M). x.number) l)
  number_in [] k o e = absurd (some-ne-none o (sym e))
  number_in (x ∷ xs) zero o e =
      let same : x.number ≡ o.number = ap (λ (z : Own M). z.number) (some-injective x o e) in
      let one : times o.number (x.number ∷ []) ≡ 1 = subst (λ n. times o.number (n ∷ []) ≡ 1) (sym same) (times-one o.number) in
      omega arith
  number_in (x ∷ xs) (suc k) o e = omega (arith, number_in xs k o e)

  pub length-numbers : (l : List (Own M)) → length (map (λ (x : Own M). x.number) l) ≡ length l
  length-numbers [] = refl
  length-numbers (x ∷ xs) = ap suc (length-numbers xs)

  -- a lock whose words, slot and hands stay, and whose mailbox gets no event, stands
  pub stays_there : (q : ℕ) (order order' : List (Entry M)) (words words' : List ℕ) (homes homes' : Slots M)
      (hands hands' : List (Hand (List (Event M)))) → LockStands q order words homes hands
      → part q order' ≡ part q order → length words' ≡ length words → get_or words' (word_of q) 0 ≡ get_or words (word_of q) 0
      → get_or words' (word_of q + 1) 0 ≡ get_or words (word_of q + 1) 0
      → get_elem? homes' q ≡ get_elem? homes q → hands' ≡ hands → LockStands q order' words' homes' hands'
  stays_there q order order' words words' homes homes' hands hands' s same_part same_length first second same_home same_hands =
      let log = s.0 in
      let c = s.1.core in (
        log,
        record {
          room = omega (arith, s.1.room, same_length);
          core = subst (λ a. TicketCore a (get_or words' (word_of q + 1) 0) log (get_elem? homes' q) hands') (sym first)
              (subst (λ b. TicketCore (get_or words (word_of q) 0) b log (get_elem? homes' q) hands') (sym second)
              (subst (λ x. TicketCore (get_or words (word_of q) 0) (get_or words (word_of q + 1) 0) log x hands') (sym same_home)
              (subst (λ l. TicketCore (get_or words (word_of q) 0) (get_or words (word_of q + 1) 0) log (get_elem? homes q) l)
              (sym same_hands) c)));
        },
        subst (λ h. EndsIn log h) (sym same_part) s.2,
      )

  -- no more Dones than Posts
  pub fewer_dones : (boxes : ℕ) (order : List (Entry M)) → IsLawful boxes order → completed order ≤ posted order
  fewer_dones boxes order law = omega (
    arith,
    posted_is boxes order law,
    completed_is boxes order law,
    sum_le (λ q. length (dones (part q order))) (λ q. length (posts (part q order))) boxes
        (λ q h. let z = sizes_of (part q order) (law.legal q) in omega (arith, dones_few (part q order) z, z.fewer)),
  )

  -- the order is closed if no post is outstanding
  pub closed_at_zero : (boxes : ℕ) (order : List (Entry M)) (low more : ℕ) → IsLawful boxes order
      → low + completed order ≡ posted order + more → low ≡ 0 → IsClosed order
  closed_at_zero boxes order low more law count none = (counted_closed boxes order law).0 (omega (arith, fewer_dones boxes order law))

  -- the order, the first abort and the low bits continue
  pub record BoardGrows (order order' : List (Entry M)) (first first' : Option Abort) (low low' : ℕ) : Type 0 where
    pub begins : StartsWith order' order
    pub aborted : (a : Abort) → first ≡ Some a → first' ≡ Some a
    pub still : low ≡ 0 → (low' ≡ 0) × (order' ≡ order)

  pub grows_same : (order : List (Entry M)) (first : Option Abort) (low : ℕ) → BoardGrows order order first first low low
  grows_same order first low = record { begins = StartsWith-refl order; aborted = λ a e. e; still = λ e. (e, refl) }

module _ {M W : Type 0} where
  module _ (fits : W → ℕ → M → Type 0) (g : Ground M W) where
    pub saw_grows : (order order' : List (Entry M)) (first first' : Option Abort) (low low' : ℕ) (x : Seen M)
        → BoardGrows order order' first first' low low' → Saw fits g order first low x → Saw fits g order' first' low' x
    saw_grows order order' first first' low low' x on s = record {
      begins = StartsWith-trans order' order x.order on.begins s.begins;
      sound = s.sound;
      aborted = λ a e. on.aborted a (s.aborted a e);
      close = λ k. let c = s.close k in let d = on.still c.0 in (d.0, c.1 ∙ sym d.1);
    }

    -- what was seen is sound if its order is one that is
    pub sound_with : (order : List (Entry M)) (first : Option Abort) (x y : Seen M) → IsSound fits (state_of g x) → x.order ≡ y.order
        → ((a : Abort) → y.aborted ≡ Some a → a.by < g.boxes) → IsSound fits (state_of g y)
    sound_with order first x y s same by = record {
      lawful = subst (λ l. IsLawful g.boxes l) same s.lawful;
      fitting =
          subst
          (λ l. (i to sender : ℕ) (m : M) (t : ℕ)
          → Rattle.std.specs.Prelude.slice_get l i ≡ Some (Rattle.post_ledger.specs.declared.entry.Entry.TheVariants.Posted to sender m t)
          → fits g.world.value to m) same s.fitting;
      by = by;
    }

    -- the whole order was seen, with an abort that is the first, if any
    pub saw_all : (order : List (Entry M)) (first : Option Abort) (low : ℕ) (x : Seen M)
        → IsSound fits (state_of g record { order = order; aborted = first; knows = false }) → x.order ≡ order
        → ((a : Abort) → x.aborted ≡ Some a → first ≡ Some a) → (x.knows ≡ true → low ≡ 0) → Saw fits g order first low x
    saw_all order first low x s same aborted knows = record {
      begins = subst (λ l. StartsWith order l) (sym same) (StartsWith-refl order);
      sound =
          λ some_of.
          sound_with order first record { order = order; aborted = first; knows = false } x s (sym same) (λ a e. s.by a (aborted a e));
      aborted = aborted;
      close = λ k. (knows k, same);
    }

    module _ (s : Boxes M W) (r : Rule fits g s) (id : ℕ) (v : SeatView M W) (is_at : get_elem? s.views id ≡ some v) where
      -- a pass of another seat is not one of this one's
      pub not_mine : (j k : ℕ) (u : SeatView M W) (o : Own M) → j ≢ id → get_elem? s.views j ≡ some u → get_elem? u.lanes k ≡ some o
          → times o.number (pass_numbers v) ≡ 0
      not_mine j k u o ne at_u at_o =
          let two = total_two (λ (w : SeatView M W). times o.number (pass_numbers w)) s.views id j v u (λ e. ne (sym e)) is_at at_u in
          omega (arith, r.once o.number, number_in u.lanes k o at_o)

      -- what the seat sees is news, if this holds for the state after the step
      pub news_is : (order' : List (Entry M)) (first' : Option Abort) (low' more : ℕ) (x : Seen M) → IsLawful g.boxes order'
          → low' + completed order' ≡ posted order' + more → Saw fits g order' first' low' x
          → StartsWith x.order v.seen.order → ((a : Abort) → v.seen.aborted ≡ Some a → x.aborted ≡ Some a)
          → (v.seen.knows ≡ true → x.knows ≡ true) → News fits v x
      news_is order' first' low' more x law count saw begins aborted knows = record {
        begins = begins;
        aborted = aborted;
        knows = knows;
        sound = λ some_of k is. subst (λ j. IsSound fits (state_of j x)) (sym ((r.each id v is_at).board 0 k is)) (saw.sound some_of);
        close = λ is. let c = saw.close is in subst IsClosed (sym c.1) (closed_at_zero g.boxes order' low' more law count c.0);
      }

      -- whoever has made an abort has made it
      pub made_still : (w : SeatView M W) → ((n : ℕ) → makes n w ≡ makes n v) → (a : Abort) → r.first ≡ Some a
          → 0 < total (makes a.by) (set s.views id w)
      made_still w same a is = omega (arith, total_set (makes a.by) s.views id v w is_at, same a.by, r.maker a is)

      -- the count after one seat has another view
      pub count_after : (order' : List (Entry M)) (low' : ℕ) (w : SeatView M W)
          → low' + completed order' + v.owes ≡ posted order' + owed s.views + w.owes
          → low' + completed order' ≡ posted order' + owed (set s.views id w)
      count_after order' low' w count = omega (arith, total_set (λ (u : SeatView M W). u.owes) s.views id v w is_at)

      -- the rule after one seat has another view
      pub rebuilt : (order' : List (Entry M)) (first' : Option Abort) (low' : ℕ) (words : List ℕ) (homes : Slots M) (w : SeatView M W)
          → BoardGrows r.order order' r.first first' r.low low'
          → ((n : ℕ) → times n (pass_numbers v) ≡ 0 → own n order' ≡ own n r.order)
          → IsSound fits (state_of g record { order = order'; aborted = first'; knows = false })
          → ((q : ℕ) → q < g.boxes → LockStands q order' words homes (set (map (hand_at q) s.views) id (hand_at q w))) → 0 < length words
          → get_or words 0 0 ≡ low' + flag first'
          → low' + completed order' + v.owes ≡ posted order' + owed s.views + w.owes → low' + w.budget ≤ r.low + v.budget
          → KnowsBoard fits g order' first' low' w → pass_numbers w ≡ pass_numbers v
          → ((a : Abort) → first' ≡ Some a → 0 < total (makes a.by) (set s.views id w))
          → Rule fits g record { words = words; homes = homes; views = set s.views id w }
      rebuilt order' first' low' words homes w on apart sound locks some_word word count few mine same maker = record {
        order = order';
        first = first';
        low = low';
        sound = sound;
        locks = λ q near. subst (λ l. LockStands q order' words homes l) (sym (map-set (hand_at q) s.views id w)) (locks q near);
        some_word = some_word;
        word = word;
        count = count_after order' low' w count;
        few = omega (arith, total_set (λ (u : SeatView M W). u.budget) s.views id v w is_at, r.few);
        each = λ j u at. elim (at_set s.views id j w u at) [
          | inl t ↦ subst (λ z. KnowsBoard fits g order' first' low' z) t.1 mine
          | inr t ↦ (let k = r.each j u t.1 in record {
            board = k.board;
            saw = saw_grows r.order order' r.first first' r.low low' u.seen on k.saw;
            told = saw_grows r.order order' r.first first' r.low low' u.told on k.told;
            owns = λ i o at_o. apart o.number (not_mine j i u o t.0 t.1 at_o) ∙ k.owns i o at_o;
            parts = k.parts;
            idle = k.idle;
          })
        ];
        once = λ n. let e : times n (pass_numbers w) ≡ times n (pass_numbers v) = ap (times n) same in
            omega (arith, total_set (λ (u : SeatView M W). times n (pass_numbers u)) s.views id v w is_at, r.once n);
        whole =
            omega (
              arith,
              total_set (λ (u : SeatView M W). length u.lanes) s.views id v w is_at,
              r.whole,
              ap length same,
              length-numbers w.lanes,
              length-numbers v.lanes,
            );
        maker = maker;
      }

      -- the other locks stand when one takes a step
      pub locks_after : (order' : List (Entry M)) (slot i n : ℕ) (homes : Slots M) (log : List (List (Event M))) (w : SeatView M W)
          (h : Hand (List (Event M))) → (i ≡ word_of slot) ⊎ (i ≡ word_of slot + 1)
          → ((k : ℕ) → k ≢ slot → get_elem? homes k ≡ get_elem? s.homes k) → hand_at slot w ≡ h
          → ((q : ℕ) → q ≢ slot → hand_at q w ≡ hand_at q v)
          → Kept (word_of slot) slot log (set s.words i n) homes (set (map (hand_at slot) s.views) id h) → EndsIn log (part slot order')
          → ((q : ℕ) → q ≢ slot → part q order' ≡ part q r.order)
          → (q : ℕ) → q < g.boxes → LockStands q order' (set s.words i n) homes (set (map (hand_at q) s.views) id (hand_at q w))
      locks_after order' slot i n homes log w h where_i same_homes is_h others kept ends parts q near = dite (ℕ_discrete q slot)
          (λ (e : q ≡ slot).
          subst (λ k. LockStands k order' (set s.words i n) homes (set (map (hand_at k) s.views) id (hand_at k w))) (sym e) (
            log,
            subst (λ z. Kept (word_of slot) slot log (set s.words i n) homes (set (map (hand_at slot) s.views) id z)) (sym is_h) kept,
            ends,
          ))
          (λ (ne : q ≢ slot).
          stays_there q r.order order' s.words (set s.words i n) s.homes homes (map (hand_at q) s.views)
          (set (map (hand_at q) s.views) id (hand_at q w)) (r.locks q near) (parts q ne) (length-set s.words i n)
          (get_or-set_other s.words i (word_of q) n 0 (λ k. elim where_i [ inl a ↦ ne (omega arith) | inr a ↦ absurd (omega arith) ]))
          (get_or-set_other s.words i (word_of q + 1) n 0 (λ k. elim where_i [ inl a ↦ absurd (omega arith) | inr a ↦ ne (omega arith) ]))
          (same_homes q ne)
          (ap (set (map (hand_at q) s.views) id) (others q ne)
          ∙ set_again (map (hand_at q) s.views) id (hand_at q v) (at-map (hand_at q) s.views id v is_at)))

      -- all locks stand if no hand changes, and no word but word 0
      pub locks_still : (n : ℕ) (w : SeatView M W) → ((q : ℕ) → hand_at q w ≡ hand_at q v) → (q : ℕ) → q < g.boxes
          → LockStands q r.order (set s.words 0 n) s.homes (set (map (hand_at q) s.views) id (hand_at q w))
      locks_still n w others q near =
          stays_there q r.order r.order s.words (set s.words 0 n) s.homes s.homes (map (hand_at q) s.views)
          (set (map (hand_at q) s.views) id (hand_at q w)) (r.locks q near) refl (length-set s.words 0 n)
          (get_or-set_other s.words 0 (word_of q) n 0 (λ k. omega arith))
          (get_or-set_other s.words 0 (word_of q + 1) n 0 (λ k. omega arith)) refl
          (ap (set (map (hand_at q) s.views) id) (others q)
          ∙ set_again (map (hand_at q) s.views) id (hand_at q v) (at-map (hand_at q) s.views id v is_at))
