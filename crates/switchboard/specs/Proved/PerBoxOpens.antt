-- The rule of a board with a lock for each mailbox allows a lock at each mailbox's place.
use Rattle.std.proofs.Common.{◌≡◌, ◌≢◌, ◌⊎◌, inl, inr, ℕ, zero, suc, ◌+◌, ◌<◌, false, List, [], ◌∷◌, ◌++◌, map, length, set}
use Rattle.std.proofs.Common.{refl, sym, ap, ◌∙◌, subst, arith, length-set, length-append, get_or-set_other, lt_of_not-le, set-set}
use Rattle.std.proofs.lemmas.List.{append-nil, append_assoc, append_cancel_left}
use mathlib.Core.Option.{some, some-injective, some-ne-none}
use mathlib.Core.Logic.{dite}
use native.Mathlib.Decide.{ℕ_discrete, dec_le}
use lib.ListN.{get_elem?}
use Rattle.ticket_lock.specs.declared.hand.Hand.{Hand}
use Rattle.ticket_lock.specs.Count.{times, total}
use Rattle.ticket_lock.specs.History.{StartsWith, EndsIn}
use Rattle.ticket_lock.specs.Turns.{draws, waits, enters, passes, Kept, Follows, Opens}
use Rattle.ticket_lock.specs.Proved.Facts.{set_here, at_inside, at-map, times-one, EndsIn-same, EndsIn-more, StartsWith-refl}
use Rattle.ticket_lock.specs.Proved.Facts.{StartsWith-trans}
use Rattle.post_ledger.specs.declared.event.Event.{Event}
use Rattle.post_ledger.specs.declared.event.Event.TheVariants.{Post, Take, Done}
use Rattle.post_ledger.specs.declared.entry.Entry.{Entry}
use Rattle.post_ledger.specs.History.{MayFollow}
use Rattle.post_ledger.specs.Orders.{mailbox_of, event_of, maker_of, part, own, posted, completed}
use Rattle.post_ledger.proofs.Orders.{part-append, part_here, part_else, own-append, own_here, own_else, posted-append, completed-append}
use Rattle.post_ledger.proofs.Orders.{nothing_follows}
use Rattle.switchboard.specs.declared.lock_per_box.knowing.Ground.{Ground}
use Rattle.switchboard.specs.declared.lock_per_box.knowing.Seen.{Seen}
use Rattle.switchboard.specs.declared.lock_per_box.knowing.Own.{Own}
use Rattle.switchboard.specs.Sights.{BoardState, IsSound}
use Rattle.switchboard.specs.Books.{with_new_event}
use Rattle.switchboard.specs.Proved.Entries.{Allowed, sound_push, job_stays}
use Rattle.switchboard.specs.Knowing.{entry_of, owes_after, made_by, state_of, hand_at, with_hand, with_seen, pass_numbers}
use Rattle.switchboard.specs.Knowing.{makes}
use Rattle.switchboard.specs.PerBox.{SeatView, word_of, IsBox, Saw, KnowsBoard, News, Rule, MayRecord, LeavesEvents, Recorded, RecordedTwo}
use Rattle.switchboard.specs.PerBox.{TellsOrder}
use Rattle.switchboard.specs.PerBox.{Boxes}
use Rattle.switchboard.specs.PerBox.{Slots, owed}
use Rattle.switchboard.specs.Proved.PerBoxFacts.{hand_here, hand_else, has_hand, closed_at_zero, BoardGrows, grows_same, saw_grows, saw_all}
use Rattle.switchboard.specs.Proved.PerBoxFacts.{news_is, made_still, rebuilt, locks_after}

module _ {M : Type 0} where
  entry_box : (q under : ℕ) (e : Event M) → mailbox_of (entry_of q under e) ≡ q
  entry_box q under (Post s m) = refl
  entry_box q under (Take s m) = refl
  entry_box q under (Done t) = refl

  entry_event : (q under : ℕ) (e : Event M) → event_of (entry_of q under e) ≡ e
  entry_event q under (Post s m) = refl
  entry_event q under (Take s m) = refl
  entry_event q under (Done t) = refl

  longer_no : (x : List (Event M)) (e : Event M) → x ≡ x ++ e ∷ [] → ⊥
  longer_no x e is = omega (arith, ap length is, length-append x (e ∷ []))

  longer_two : (x : List (Event M)) (e f : Event M) → x ≡ (x ++ e ∷ []) ++ f ∷ [] → ⊥
  longer_two x e f is = omega (arith, ap length is, length-append (x ++ e ∷ []) (f ∷ []), length-append x (e ∷ []))

  one_not_two : (x : List (Event M)) (d e f : Event M) → x ++ d ∷ [] ≡ (x ++ e ∷ []) ++ f ∷ [] → ⊥
  one_not_two x d e f is =
      omega (arith, ap length is, length-append x (d ∷ []), length-append (x ++ e ∷ []) (f ∷ []), length-append x (e ∷ []))

  two_are : (x : List (Event M)) (t u a b : ℕ) (m k : M)
      → (x ++ Done t ∷ []) ++ Take a m ∷ [] ≡ (x ++ Done u ∷ []) ++ Take b k ∷ [] → (t ≡ u) × (a ≡ b) × (m ≡ k)
  two_are x t u a b m k is =
      let l : List (Event M) = Done t ∷ Take a m ∷ [] in
      let r : List (Event M) = Done u ∷ Take b k ∷ [] in
      let same : l ≡ r = append_cancel_left x l r
      (sym (append_assoc x (Done t ∷ []) (Take a m ∷ [])) ∙ (is ∙ append_assoc x (Done u ∷ []) (Take b k ∷ []))) in
      (cc, cc, cc)

  one_lane : (o p : Own M) → (let l : List (Own M) = o ∷ [] in let k : List (Own M) = p ∷ [] in l ≡ k) → o ≡ p
  one_lane o p e = cc

  only_at : (o p : Own M) (i : ℕ) → (let l : List (Own M) = o ∷ [] in get_elem? l i ≡ some p) → o ≡ p
  only_at o p zero e = some-injective o p e
  only_at o p (suc i) e = absurd (some-ne-none p (sym e))

  -- the history after the event
  part_after : (q under : ℕ) (order : List (Entry M)) (e : Event M) → part q (order ++ entry_of q under e ∷ []) ≡ part q order ++ e ∷ []
  part_after q under order e =
      let x : Entry M = entry_of q under e in
      part-append q order (x ∷ [])
      ∙ (ap (λ l. part q order ++ l) (part_here q x [] (entry_box q under e))
      ∙ ap (λ z. part q order ++ z ∷ []) (entry_event q under e))

  -- and the others as they were
  part_other : (q k under : ℕ) (order : List (Entry M)) (e : Event M) → k ≢ q → part k (order ++ entry_of q under e ∷ []) ≡ part k order
  part_other q k under order e ne =
      let x : Entry M = entry_of q under e in
      part-append k order (x ∷ [])
      ∙ (ap (λ l. part k order ++ l) (part_else k x [] (λ z. ne (sym z ∙ entry_box q under e))) ∙ append-nil (part k order))

module _ {M W : Type 0} (fits : W → ℕ → M → Type 0) (g : Ground M W) where
  maker_is : (q n : ℕ) (e : Event M) (x : List (Event M)) (v : SeatView M W) → MayRecord fits q n e x v
      → maker_of (entry_of q v.under e) ≡ n
  maker_is q n (Post s m) x v may = may.0
  maker_is q n (Take s m) x v may = sym may.0
  maker_is q n (Done t) x v may = sym may.0

  counted : (q n low more : ℕ) (e : Event M) (x : List (Event M)) (v : SeatView M W) (order : List (Entry M)) → MayRecord fits q n e x v
      → low + completed order ≡ posted order + more
      → (let longer : List (Entry M) = order ++ entry_of q v.under e ∷ [] in
      low + completed longer + v.owes ≡ posted longer + more + owes_after e v.owes)
  counted q n low more (Post s m) x v order may count =
      omega
      (arith, posted-append order (entry_of q v.under (Post s m) ∷ []), completed-append order (entry_of q v.under (Post s m) ∷ []), may.3)
  counted q n low more (Take s m) x v order may count =
      omega (arith, posted-append order (entry_of q v.under (Take s m) ∷ []), completed-append order (entry_of q v.under (Take s m) ∷ []))
  counted q n low more (Done t) x v order may count =
      omega (arith, posted-append order (entry_of q v.under (Done t) ∷ []), completed-append order (entry_of q v.under (Done t) ∷ []))

  module _ (s : Boxes M W) (r : Rule fits g s) (id : ℕ) (v : SeatView M W) (is_at : get_elem? s.views id ≡ some v) where
    -- what the seat is to record may come after the order
    may_come : (q : ℕ) (o : Own M) (e : Event M) (x : List (Event M)) → q < g.boxes → part q r.order ≡ x
        → own o.number v.seen.order ≡ own o.number r.order → MayRecord fits q o.number e x v
        → Allowed fits (entry_of q v.under e) (state_of g record { order = r.order; aborted = r.first; knows = false })
    may_come q o (Post a m) x near is list may = record {
      near = near;
      follows = tt;
      under =
          subst (λ n. Rattle.post_ledger.specs.Orders.HasJob n v.under r.order) (sym may.0)
          (job_stays o.number v.under v.seen.order r.order list may.1);
      fit = subst (λ (k : Ground M W). fits k.world.value q m) ((r.each id v is_at).board 0 may.2.0 may.2.1) may.2.2;
    }
    may_come q o (Take a m) x near is list may = record {
      near = near;
      follows = subst (λ h. MayFollow h (Take a m)) (sym is) may.1;
      under = tt;
      fit = tt;
    }
    may_come q o (Done t) x near is list may = record {
      near = near;
      follows = subst (λ h. MayFollow h (Done t)) (sym is) may.1;
      under = tt;
      fit = tt;
    }

    -- a seat with another hand of the same shares, which has seen this
    knows_hand : (q : ℕ) (h : Hand (List (Event M))) (x : Seen M) → q < length v.hands → h.parts ≡ (hand_at q v).parts
        → Saw fits g r.order r.first r.low x → KnowsBoard fits g r.order r.first r.low (with_seen x (with_hand q h v))
    knows_hand q h x short parts saw =
        let k = r.each id v is_at in
        record {
          board = k.board;
          saw = saw;
          told = k.told;
          owns = k.owns;
          parts = λ j near. dite (ℕ_discrete j q)
              (λ (e : j ≡ q).
              subst (λ i. (hand_at i (with_hand q h v)).parts ≡ length v.lanes) (sym e)
              (ap (λ (z : Hand (List (Event M))). z.parts) (hand_here q h v short)
              ∙ (parts ∙ k.parts q (subst (λ i. i < g.boxes) e near))))
              (λ (ne : j ≢ q). ap (λ (z : Hand (List (Event M))). z.parts) (hand_else q j h v ne) ∙ k.parts j near);
          idle = k.idle;
        }

    -- the rule after a step of a lock
    turned : (order : List (Entry M)) (q i n : ℕ) (homes : Slots M) (log : List (List (Event M))) (h : Hand (List (Event M)))
        (w : SeatView M W) → (i ≡ word_of q) ⊎ (i ≡ word_of q + 1)
        → ((k : ℕ) → k ≢ q → get_elem? homes k ≡ get_elem? s.homes k) → hand_at q w ≡ h → ((k : ℕ) → k ≢ q → hand_at k w ≡ hand_at k v)
        → Kept (word_of q) q log (set s.words i n) homes (set (map (hand_at q) s.views) id h) → EndsIn log (part q order)
        → ((k : ℕ) → k ≢ q → part k order ≡ part k r.order) → BoardGrows r.order order r.first r.first r.low r.low
        → ((k : ℕ) → times k (pass_numbers v) ≡ 0 → own k order ≡ own k r.order)
        → IsSound fits (state_of g record { order = order; aborted = r.first; knows = false })
        → r.low + completed order + v.owes ≡ posted order + owed s.views + w.owes → w.budget ≡ v.budget
        → KnowsBoard fits g order r.first r.low w → pass_numbers w ≡ pass_numbers v → ((k : ℕ) → makes k w ≡ makes k v)
        → Rule fits g record { words = set s.words i n; homes = homes; views = set s.views id w }
    turned order q i n homes log h w where_i same_homes is_h others kept ends parts on apart sound count budget mine same made =
        rebuilt fits g s r id v is_at order r.first r.low (set s.words i n) homes w on apart sound
        (locks_after fits g s r id v is_at order q i n homes log w h where_i same_homes is_h others kept ends parts)
        (omega (arith, length-set s.words i n, r.some_word))
        (get_or-set_other s.words i 0 n 0 (λ k. elim where_i [ inl a ↦ absurd (omega arith) | inr a ↦ absurd (omega arith) ]) ∙ r.word)
        count (omega arith) mine same
        (made_still fits g s r id v is_at w made)

    -- a hand that has a ticket or is inside has a share
    has_share : (q i n : ℕ) (homes : Slots M) (log : List (List (Event M))) (h : Hand (List (Event M)))
        → Kept (word_of q) q log (set s.words i n) homes (set (map (hand_at q) s.views) id h)
        → h.parts ≡ (hand_at q v).parts → ((h.tickets ≡ []) × (h.inside ≡ []) → ⊥) → q < length v.hands
    has_share q i n homes log h kept same busy =
        let at =
        set_here (map (hand_at q) s.views) id h
        (at_inside (map (hand_at q) s.views) id (hand_at q v) (at-map (hand_at q) s.views id v is_at)) in
        let fit = kept.core.each id h at in
        has_hand (λ (z : Hand (List (Event M))). z.parts) q v refl
        (elim (dec_le 1 h.parts) [ yes d ↦ omega arith | no d ↦ (let lt = lt_of_not-le d in absurd (busy (fit.idle (omega arith)))) ])

    -- what the seat has seen when it has seen a later order, and no other abort
    abbrev seen_of : List (Entry M) → Seen M
    seen_of order = record v.seen { order = order }

    saw_of : (order : List (Entry M)) → IsSound fits (state_of g record { order = order; aborted = r.first; knows = false })
        → Saw fits g order r.first r.low (seen_of order)
    saw_of order sound =
        let saw = (r.each id v is_at).saw in
        saw_all fits g order r.first r.low (seen_of order) sound refl saw.aborted (λ k. (saw.close k).0)

    news_of : (order : List (Entry M)) (more : ℕ)
        → IsSound fits (state_of g record { order = order; aborted = r.first; knows = false })
        → r.low + completed order ≡ posted order + more → StartsWith order r.order → News fits v (seen_of order)
    news_of order more sound count begins =
        news_is fits g s r id v is_at order r.first r.low more (seen_of order) sound.lawful count (saw_of order sound)
        (StartsWith-trans order r.order v.seen.order begins (r.each id v is_at).saw.begins) (λ b k. k) (λ k. k)

    -- a post is outstanding if something may follow
    not_closed : (e : Entry M) → IsSound fits (state_of g record { order = r.order ++ e ∷ []; aborted = r.first; knows = false })
        → r.low ≡ 0 → ⊥
    not_closed e sound none = none_more
        (nothing_follows g.boxes r.order (e ∷ []) r.sound.lawful
        (closed_at_zero g.boxes r.order r.low (owed s.views) r.sound.lawful r.count none) sound.lawful)
      where
        none_more : {k : Entry M} → (let l : List (Entry M) = k ∷ [] in l ≡ []) → ⊥
        none_more k = cc

    module _ (o : Own M) (lanes : v.lanes ≡ o ∷ []) where
      named : pass_numbers v ≡ o.number ∷ []
      named = ap (map (λ (p : Own M). p.number)) lanes

      -- an entry of the pass is in no other's list
      own_apart : (order : List (Entry M)) (e : Entry M) → maker_of e ≡ o.number → (k : ℕ) → times k (pass_numbers v) ≡ 0
          → own k (order ++ e ∷ []) ≡ own k order
      own_apart order e maker k none =
          own-append k order (e ∷ [])
          ∙ (ap (λ l. own k order ++ l) (own_else k e [] (λ j. absurd (let one = times-one k in
          let there : times k (o.number ∷ []) ≡ 1 = subst (λ m. times k (m ∷ []) ≡ 1) (sym (sym maker ∙ j)) one in
          omega (arith, ap (times k) named)))) ∙ append-nil (own k order))

      own_grows : (order list : List (Entry M)) (e : Entry M) → maker_of e ≡ o.number → own o.number order ≡ list
          → own o.number (order ++ e ∷ []) ≡ list ++ e ∷ []
      own_grows order list e maker is = own-append o.number order (e ∷ []) ∙ (λ j. is j ++ own_here o.number e [] maker j)

      -- the rule after the pass has recorded events of its own behind the order
      module _ (q i n : ℕ) (homes : Slots M) (log : List (List (Event M))) (h : Hand (List (Event M)))
          (where_i : (i ≡ word_of q) ⊎ (i ≡ word_of q + 1)) (same_homes : (k : ℕ) → k ≢ q → get_elem? homes k ≡ get_elem? s.homes k)
          (kept : Kept (word_of q) q log (set s.words i n) homes (set (map (hand_at q) s.views) id h)) (short : q < length v.hands)
          (parts : h.parts ≡ (hand_at q v).parts) (order list : List (Entry M)) (owes : ℕ) where
        abbrev recorded : SeatView M W
        recorded = record v {
          hands = set v.hands q h;
          lanes = record o { events = list } ∷ [];
          seen = seen_of order;
          owes = owes;
        }

        recorded_rule : EndsIn log (part q order) → ((k : ℕ) → k ≢ q → part k order ≡ part k r.order)
            → ((k : ℕ) → times k (pass_numbers v) ≡ 0 → own k order ≡ own k r.order) → own o.number order ≡ list
            → IsSound fits (state_of g record { order = order; aborted = r.first; knows = false })
            → StartsWith order r.order → (r.low ≡ 0 → ⊥)
            → r.low + completed order + v.owes ≡ posted order + owed s.views + owes
            → Rule fits g record { words = set s.words i n; homes = homes; views = set s.views id recorded }
        recorded_rule ends others apart grown sound begins open_still count =
            let mine = r.each id v is_at in
            let on : BoardGrows r.order order r.first r.first r.low r.low =
            record { begins = begins; aborted = λ b z. z; still = λ z. absurd (open_still z) } in
            turned order q i n homes log h recorded where_i same_homes (hand_here q h v short) (λ k ne. hand_else q k h v ne) kept ends
            others on apart sound count refl record {
              board = mine.board;
              saw = saw_of order sound;
              told = saw_grows fits g r.order order r.first r.first r.low r.low v.told on mine.told;
              owns = λ j p at. subst (λ (t : Own M). own t.number order ≡ t.events) (only_at (record o { events = list }) p j at) grown;
              parts = λ k nearby. (knows_hand q h v.seen short parts mine.saw).parts k nearby ∙ ap length lanes;
              idle = λ none. absurd (omega arith);
            } (sym named) (λ k. sym (ap (total (made_by k)) lanes))

    module _ (q : ℕ) (near : q < g.boxes) where
      abbrev log : List (List (Event M))
      log = (r.locks q near).0

      follows : Follows (Rule fits g) (hand_at q) (LeavesEvents fits q) (TellsOrder fits q) (word_of q) q s log id v
      follows draws i n homes log' h where_i _ same_homes turn kept asked =
          let parts = ap (λ (z : Hand (List (Event M))). z.parts) turn.1.1 in
          let short =
          has_share q i n homes log' h kept parts (λ none. let e = ap (λ (z : Hand (List (Event M))). length z.tickets) turn.1.1 in
          let z = ap length none.0 in omega (arith, length-append (hand_at q v).tickets (turn.1.0 ∷ []))) in
          let w : SeatView M W = with_hand q h v in
          let is_h = hand_here q h v short in (
            w,
            is_h,
            turned r.order q i n homes log' h w where_i same_homes is_h (λ k ne. hand_else q k h v ne) kept
                (subst (λ l. EndsIn l (part q r.order)) (sym turn.0) (r.locks q near).2) (λ k ne. refl) (grows_same r.order r.first r.low)
                (λ k _. refl) r.sound (omega (arith, r.count)) refl (knows_hand q h v.seen short parts (r.each id v is_at).saw) refl
                (λ k. refl),
            sym (ap (λ z. with_hand q z v) is_h),
          )
      follows waits i n homes log' h where_i _ same_homes turn kept asked = (
        v,
        sym turn.1,
        turned r.order q i n homes log' h v where_i same_homes (sym turn.1) (λ k ne. refl) kept
            (subst (λ l. EndsIn l (part q r.order)) (sym turn.0) (r.locks q near).2) (λ k ne. refl) (grows_same r.order r.first r.low)
            (λ k _. refl) r.sound (omega (arith, r.count)) refl (r.each id v is_at) refl (λ k. refl),
        refl,
      )
      follows (enters x) i n homes log' h where_i _ same_homes turn kept asked =
          let mine = r.each id v is_at in
          let parts = ap (λ (z : Hand (List (Event M))). z.parts) turn.2.1 in
          let short =
          has_share q i n homes log' h kept parts (λ none. let e = ap (λ (z : Hand (List (Event M))). length z.inside) turn.2.1 in
          let z = ap length none.1 in omega arith) in
          let y : Seen M = record v.seen { order = r.order } in
          let saw : Saw fits g r.order r.first r.low y =
          saw_all fits g r.order r.first r.low y r.sound refl mine.saw.aborted (λ e. (mine.saw.close e).0) in
          let w : SeatView M W = with_seen y (with_hand q h v) in
          let is_h = hand_here q h v short in (
            w,
            is_h,
            turned r.order q i n homes log' h w where_i same_homes is_h (λ k ne. hand_else q k h v ne) kept
                (subst (λ l. EndsIn l (part q r.order)) (sym turn.0) (r.locks q near).2) (λ k ne. refl) (grows_same r.order r.first r.low)
                (λ k _. refl) r.sound (omega (arith, r.count)) refl (knows_hand q h y short parts saw) refl (λ k. refl),
            (
              sym (ap (λ z. with_seen y (with_hand q z v)) is_h),
              news_is fits g s r id v is_at r.order r.first r.low (owed s.views) y r.sound.lawful r.count saw mine.saw.begins (λ a e. e)
                  (λ e. e),
              mine.owns,
              refl,
              refl,
              EndsIn-same log (part q r.order) x (r.locks q near).2 turn.1,
            ),
          )
      follows (passes x y) i n homes log' h where_i _ same_homes turn kept asked =
          let mine = r.each id v is_at in
          let parts = ap (λ (z : Hand (List (Event M))). z.parts) turn.3 in
          let served = (r.locks q near).1.core.served in
          let short = has_hand (λ (z : Hand (List (Event M))). length z.seen) q v refl (omega (arith, ap length turn.2)) in
          let is_h = hand_here q h v short in
          let part_is : part q r.order ≡ x = EndsIn-same log (part q r.order) x (r.locks q near).2 turn.1 in
          let last : EndsIn log' y = subst (λ l. EndsIn l y) (sym turn.0) (EndsIn-more log y) in
          elim asked [
            | inl same ↦ (let w : SeatView M W = with_hand q h v in (
              w,
              is_h,
              turned r.order q i n homes log' h w where_i same_homes is_h (λ k ne. hand_else q k h v ne) kept
                  (subst (λ z. EndsIn log' z) (same ∙ sym part_is) last) (λ k ne. refl) (grows_same r.order r.first r.low)
                  (λ k _. refl) r.sound (omega (arith, r.count)) refl (knows_hand q h v.seen short parts mine.saw) refl (λ k. refl),
              (
                (λ _. sym (ap (λ z. with_hand q z v) is_h)),
                (λ o e lanes is. absurd (longer_no x e (sym same ∙ is))),
                (λ o t a m lanes is. absurd (longer_two x (Done t) (Take a m) (sym same ∙ is))),
              ),
            ))
            | inr (inl a) ↦ (
                let o : Own M = a.0 in
                let e : Event M = a.1 in
                let lanes = a.2 in
                let is = a.4 in
                let may = a.5 in
                let more : Entry M = entry_of q v.under e in
                let order : List (Entry M) = r.order ++ more ∷ [] in
                let list : own o.number r.order ≡ o.events = mine.owns 0 o (ap (λ l. get_elem? l 0) lanes) in
                let maker = maker_is q o.number e x v may in
                let come = may_come q o e x near part_is (a.3 ∙ sym list) may in
                let sound : IsSound fits (state_of g record { order = order; aborted = r.first; knows = false }) =
                sound_push fits more (state_of g record { order = r.order; aborted = r.first; knows = false }) r.sound come in
                let begins : StartsWith order r.order = (more ∷ [], refl) in
                let count = counted q o.number r.low (owed s.views) e x v r.order may r.count in
                let events : List (Entry M) = o.events ++ more ∷ [] in
                let w : SeatView M W =
                recorded o lanes q i n homes log' h where_i same_homes kept short parts order events (owes_after e v.owes) in
                let holds =
                recorded_rule o lanes q i n homes log' h where_i same_homes kept short parts order events (owes_after e v.owes)
                (subst (λ l. EndsIn log' l) (is ∙ (ap (λ l. l ++ e ∷ []) (sym part_is) ∙ sym (part_after q v.under r.order e))) last)
                (λ k ne. part_other q k v.under r.order e ne) (own_apart o lanes r.order more maker)
                (own_grows o lanes r.order o.events more maker list) sound begins (not_closed more sound) count in
                let done : Recorded fits q o e x v w = record {
                  front = r.order;
                  after = sym (ap (λ (k : Hand (List (Event M))). record w { hands = set v.hands q k }) is_h);
                  begins = mine.saw.begins;
                  own = list;
                  part = part_is;
                  news =
                      news_of order (owed (set s.views id w)) sound
                      (Rattle.switchboard.specs.Proved.PerBoxFacts.count_after fits g s r id v is_at order r.low w count) begins;
                } in (
                  w,
                  is_h,
                  holds,
                  (
                    (λ same. absurd (longer_no x e (sym same ∙ is))),
                    (λ p f lanes' is'.
                        subst (λ k. Recorded fits q k f x v w) (one_lane o p (sym lanes ∙ lanes'))
                        (subst (λ k. Recorded fits q o k x v w) (EndsIn-same y e f (x, is) (x, is')) done)),
                    (λ p t b m lanes' is'. absurd (one_not_two x e (Done t) (Take b m) (sym is ∙ is'))),
                  ),
                ))
            | inr (inr a) ↦ (
                let o : Own M = a.0 in
                let job : ℕ = a.1 in
                let sender : ℕ = a.2 in
                let message : M = a.3 in
                let lanes = a.4 in
                let is = a.6 in
                let first : Event M = Done job in
                let second : Event M = Take sender message in
                let x1 : List (Event M) = x ++ first ∷ [] in
                let e1 : Entry M = entry_of q v.under first in
                let e2 : Entry M = entry_of q v.under second in
                let order1 : List (Entry M) = r.order ++ e1 ∷ [] in
                let order : List (Entry M) = order1 ++ e2 ∷ [] in
                let list : own o.number r.order ≡ o.events = mine.owns 0 o (ap (λ l. get_elem? l 0) lanes) in
                let maker : q ≡ o.number = sym a.7 in
                let part1 : part q order1 ≡ x1 = part_after q v.under r.order first ∙ ap (λ l. l ++ first ∷ []) part_is in
                let start : BoardState M W = state_of g record { order = r.order; aborted = r.first; knows = false } in
                let sound1 : IsSound fits (state_of g record { order = order1; aborted = r.first; knows = false }) =
                sound_push fits e1 start r.sound (may_come q o first x near part_is (a.5 ∙ sym list) (a.7, a.8)) in
                let sound : IsSound fits (state_of g record { order = order; aborted = r.first; knows = false }) =
                sound_push fits e2 (with_new_event e1 start) sound1 record {
                  near = near;
                  follows = subst (λ l. MayFollow l second) (sym part1) a.9;
                  under = tt;
                  fit = tt;
                } in
                let begins1 : StartsWith order1 r.order = (e1 ∷ [], refl) in
                let begins : StartsWith order r.order = StartsWith-trans order order1 r.order (e2 ∷ [], refl) begins1 in
                let posts1 = posted-append r.order (e1 ∷ []) in
                let dones1 = completed-append r.order (e1 ∷ []) in
                let count : r.low + completed order + v.owes ≡ posted order + owed s.views + (v.owes + 1) =
                omega (arith, posts1, dones1, posted-append order1 (e2 ∷ []), completed-append order1 (e2 ∷ []), r.count) in
                let events1 : List (Entry M) = o.events ++ e1 ∷ [] in
                let events : List (Entry M) = events1 ++ e2 ∷ [] in
                let grown1 = own_grows o lanes r.order o.events e1 maker list in
                let middle : SeatView M W =
                recorded o lanes q i n homes log' h where_i same_homes kept short parts order1 events1 (v.owes + 1) in
                let w : SeatView M W =
                recorded o lanes q i n homes log' h where_i same_homes kept short parts order events (v.owes + 1) in
                let holds =
                recorded_rule o lanes q i n homes log' h where_i same_homes kept short parts order events (v.owes + 1)
                (subst (λ l. EndsIn log' l)
                (is ∙ (ap (λ l. l ++ second ∷ []) (sym part1) ∙ sym (part_after q v.under order1 second))) last)
                (λ k ne. part_other q k v.under order1 second ne ∙ part_other q k v.under r.order first ne)
                (λ k none. own_apart o lanes order1 e2 maker k none ∙ own_apart o lanes r.order e1 maker k none)
                (own_grows o lanes order1 events1 e2 maker grown1) sound begins (not_closed e1 sound1) count in
                let news = news_of order (owed s.views + 1) sound (omega (arith, count)) begins in
                let did : RecordedTwo fits q o job sender message x v w = (
                  middle,
                  record {
                    front = r.order;
                    after = sym (ap (λ (k : Hand (List (Event M))). record middle { hands = set v.hands q k }) is_h);
                    begins = mine.saw.begins;
                    own = list;
                    part = part_is;
                    news = news_of order1 (owed s.views + 1) sound1 (omega (arith, posts1, dones1, r.count)) begins1;
                  },
                  record {
                    front = order1;
                    after =
                        sym (ap (λ (k : Hand (List (Event M))). record w { hands = set (set v.hands q h) q k }) is_h
                        ∙ ap (λ l. record w { hands = l }) (set-set v.hands q h h));
                    begins = StartsWith-refl order1;
                    own = grown1;
                    part = part1;
                    news = record {
                      begins = (e2 ∷ [], refl);
                      aborted = λ b k. k;
                      knows = λ k. k;
                      sound = news.sound;
                      close = news.close;
                    };
                  },
                ) in (
                  w,
                  is_h,
                  holds,
                  (
                    (λ same. absurd (longer_two x first second (sym same ∙ is))),
                    (λ p f lanes' is'. absurd (one_not_two x f first second (sym is' ∙ is))),
                    (λ p t b m lanes' is'. let same = two_are x job t sender b message m (sym is ∙ is') in
                        subst (λ k. RecordedTwo fits q k t b m x v w) (one_lane o p (sym lanes ∙ lanes'))
                        (subst (λ k. RecordedTwo fits q o k b m x v w) same.0
                        (subst (λ k. RecordedTwo fits q o job k m x v w) same.1
                        (subst (λ k. RecordedTwo fits q o job sender k x v w) same.2 did)))),
                  ),
                ))
          ]

  boxes_open_at : (q : ℕ) → q < g.boxes → Opens (Rule fits g) (hand_at q) (LeavesEvents fits q) (TellsOrder fits q) (word_of q) q
  boxes_open_at q near s r = let l = r.locks q near in (l.0, l.1, λ id v is_at. follows s r id v is_at q near)

  pub boxes_open : (word slot : ℕ) → IsBox g word slot
      → Opens (Rule fits g) (hand_at slot) (LeavesEvents fits slot) (TellsOrder fits slot) word slot
  boxes_open word slot is =
      subst (λ w. Opens (Rule fits g) (hand_at slot) (LeavesEvents fits slot) (TellsOrder fits slot) w slot) (sym is.0)
      (boxes_open_at slot is.1)
