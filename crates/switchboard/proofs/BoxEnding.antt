-- The passes of a board with a lock for each mailbox are gathered in one seat, and what is left of the board then.
use Rattle.std.proofs.Common.{◌≡◌, ◌≢◌, inl, inr, ℕ, zero, suc, ◌+◌, ◌^◌, ◌%◌, ◌<◌, ◌≤◌, Bool}
use Rattle.std.proofs.Common.{true, false, List, [], ◌∷◌, ◌++◌, map, length, get_or, slice_get, Some, None, refl, sym, ap}
use Rattle.std.proofs.Common.{◌∙◌, subst, arith, Option, append_assoc, length-append, eq-eqb, ne_eqb, nat_eq, lt_of_not-le}
use Rattle.std.specs.Prelude.{◌↔◌}
use Rattle.std.proofs.lemmas.Bool.{eqb-true, cases_eq, or_right}
use Rattle.std.proofs.lemmas.Option.{slice_get_within, same_Some}
use mathlib.Core.Option as maybe
use mathlib.Core.Option.{some, some-injective, some-ne-none}
use native.Mathlib.Decide.{dec_le}
use lib.ListN.{get_elem?}
use Rattle.atomic_table.specs.Table as table
use Rattle.atomic_table.specs.Seated.{TableId}
use Rattle.ticket_lock.specs.declared.hand.Hand.{Hand}
use Rattle.ticket_lock.specs.Count.{times, total}
use Rattle.ticket_lock.specs.Proved.Facts.{total_at, total_two, at-map, times-one, EndsIn-same}
use Rattle.ticket_lock.proofs.HistoryFacts.{total_only, total-map, at_longer}
use Rattle.ticket_lock.specs.Proved.Facts.{StartsWith-refl, StartsWith-trans}
use Rattle.post_ledger.specs.declared.event.Event.{Event}
use Rattle.post_ledger.specs.declared.entry.Entry.{Entry}
use Rattle.post_ledger.specs.Orders.{part, own, IsClosed}
use Rattle.post_ledger.proofs.Histories.{at_seam}
use Rattle.post_ledger.proofs.Orders.{element_at, counted_closed}
use Rattle.switchboard.specs.declared.calls.Abort.{Abort}
use Rattle.switchboard.specs.declared.lock_per_box.knowing.Ground.{Ground}
use Rattle.switchboard.specs.declared.lock_per_box.knowing.Own.{Own}
use Rattle.switchboard.specs.Sights.{Sight, IsSound}
use Rattle.switchboard.specs.Promises.{AreAll, Settles}
use Rattle.switchboard.specs.Knowing.{fresh_hand, merged_hands, made_by, state_of, hand_at, pass_numbers, makes, merged_seats, informed}
use Rattle.switchboard.specs.PerBox.{SeatView, flag, Saw, Rule, SeatTookIn, Seat, owed}
use Rattle.switchboard.specs.Proved.PerBoxFacts.{number_in, closed_at_zero}
use Rattle.switchboard.specs.BoxEnds.{own_of, TookInPass, Gathered, HasSeat, BoardEnds}
use Rattle.switchboard.proofs.BoxSeats.{merged_is}
use Rattle.switchboard.proofs.BoxTakes.{low_zero}

at_right : {A : Type 0} (l m : List A) (i : ℕ) (a : A) → get_elem? m i ≡ some a → get_elem? (l ++ m) (length l + i) ≡ some a
at_right [] m i a e = let z : 0 + i ≡ i = omega arith in ap (get_elem? m) z ∙ e
at_right (x ∷ l) m i a e = let z : suc (length l) + i ≡ suc (length l + i) = omega arith in
    ap (get_elem? (x ∷ (l ++ m))) z ∙ at_right l m i a e

module _ {M W : Type 0} (fits : W → ℕ → M → Type 0) where
  -- a pass's own seat has what the pass had
  pub taken_self : (s : Sight M W) (id : TableId) (me : Seat M W) → HasSeat fits s id me → TookInPass s me.0
  taken_self s id me has =
      let p = has.0 in
      subst (λ z. TookInPass z me.0) has.1 record {
        begins = StartsWith-refl me.0.seen.order;
        aborted = λ a e. e;
        knows = λ e. e;
        lane = (0, ap (λ l. get_elem? l 0) p.lanes);
        world = (0, p.base, p.is_base, p.world);
      }

  module _ (boxes : ℕ) (all front rest : List (Sight M W)) (s : Sight M W) (are : all ≡ (front ++ s ∷ []) ++ rest) where
    last_at : slice_get all (length front) ≡ Some s
    last_at = ap (λ l. slice_get l (length front)) (are ∙ append_assoc front (s ∷ []) rest) ∙ at_seam front s rest (length front) refl

    more : all ≡ front ++ (s ∷ rest)
    more = are ∙ append_assoc front (s ∷ []) rest

    -- the first seat
    pub gathered_first : (id : TableId) (me : Seat M W) → HasSeat fits s id me → s.seen.boxes ≡ boxes → rest ≡ []
        → Gathered boxes all (length front) me
    gathered_first id me has count none =
        let p = has.0 in
        let long : length all ≡ length front + 1 = ap length more
        ∙ (length-append front (s ∷ rest) ∙ ap (λ (l : List (Sight M W)). length front + length (s ∷ l)) none) in
        record {
          out = p.outside;
          told = p.told;
          owes = p.owes;
          quiet = λ q near. let h = p.hands q (omega (arith, count)) in (h.tickets, h.inside);
          count = omega (arith, ap length p.lanes);
          each = λ j t from at.
              let same : j ≡ length front = omega (arith, slice_get_within all j t at) in
              let is : s ≡ t = same_Some s t (sym last_at ∙ (ap (slice_get all) (sym same) ∙ at)) in
              subst (λ z. TookInPass z me.0) is (taken_self s id me has);
        }

    -- one more seat taken in
    pub gathered_more : (id : TableId) (me own_me me' : Seat M W) → Gathered boxes all (length (front ++ s ∷ [])) me
        → HasSeat fits s id own_me → s.seen.boxes ≡ boxes → SeatTookIn fits (merged_seats me.0 own_me.0, me.1) me'
        → Gathered boxes all (length front) me'
    gathered_more id me own_me me' g has count took =
        let p = has.0 in
        let v : SeatView M W = me.0 in
        let w : SeatView M W = own_me.0 in
        let is : me'.0 ≡ informed (merged_seats v w) = ap (λ (z : Seat M W). z.0) took.after in
        let lanes : me'.0.lanes ≡ v.lanes ++ w.lanes = ap (λ (z : SeatView M W). z.lanes) is in
        let boards : me'.0.boards ≡ v.boards ++ w.boards = ap (λ (z : SeatView M W). z.boards) is in
        let theirs = taken_self s id own_me has in
        let long : length (front ++ s ∷ []) ≡ length front + 1 = length-append front (s ∷ []) in
        record {
          out = ap (λ (z : Seat M W). z.1) took.after ∙ g.out;
          told = ap (λ (z : SeatView M W). z.told) is;
          owes = omega (arith, ap (λ (z : SeatView M W). z.owes) is, g.owes, p.owes);
          quiet = λ q near.
              let one = merged_is v.hands w.hands q in
              let mine = g.quiet q near in
              let h = p.hands q (omega (arith, count)) in
              let at : hand_at q me'.0 ≡ get_or (merged_hands v.hands w.hands) q (fresh_hand 0) =
              ap (λ (z : SeatView M W). get_or z.hands q (fresh_hand 0)) is in (
                ap (λ (z : Hand (List (Event M))). z.tickets) at ∙ (one.tickets ∙ (λ i. mine.0 i ++ h.tickets i)),
                ap (λ (z : Hand (List (Event M))). z.inside) at ∙ (one.inside ∙ (λ i. mine.1 i ++ h.inside i)),
              );
          count = omega (arith, ap length lanes, length-append v.lanes w.lanes, ap length p.lanes, g.count);
          each = λ j t from at. elim (dec_le (length (front ++ s ∷ [])) j) [
            | yes d ↦ (let old = g.each j t d at in record {
              begins = StartsWith-trans me'.0.seen.order v.seen.order t.seen.order took.news.begins old.begins;
              aborted = λ a e. took.news.aborted a (old.aborted a e);
              knows = λ e. took.news.knows (old.knows e);
              lane = (old.lane.0, ap (λ l. get_elem? l old.lane.0) lanes ∙ at_longer v.lanes w.lanes old.lane.0 (own_of t) old.lane.1);
              world = (
                old.world.0,
                old.world.1,
                ap (λ l. get_elem? l old.world.0) boards ∙ at_longer v.boards w.boards old.world.0 old.world.1 old.world.2,
                old.world.3,
              );
            })
            | no d ↦ (
                let lt = lt_of_not-le d in
                let same : j ≡ length front = omega arith in
                let now : s ≡ t = same_Some s t (sym last_at ∙ (ap (slice_get all) (sym same) ∙ at)) in
                subst (λ z. TookInPass z me'.0) now record {
                  begins = StartsWith-trans me'.0.seen.order w.seen.order s.seen.order took.theirs theirs.begins;
                  aborted = λ a e. took.aborted a (theirs.aborted a e);
                  knows = λ e. ap (λ (z : SeatView M W). z.seen.knows) is ∙ or_right v.seen.knows w.seen.knows (theirs.knows e);
                  lane = (
                    length v.lanes + theirs.lane.0,
                    ap (λ l. get_elem? l (length v.lanes + theirs.lane.0)) lanes
                        ∙ at_right v.lanes w.lanes theirs.lane.0 (own_of s) theirs.lane.1,
                  );
                  world = (
                    length v.boards + theirs.world.0,
                    theirs.world.1,
                    ap (λ l. get_elem? l (length v.boards + theirs.world.0)) boards
                        ∙ at_right v.boards w.boards theirs.world.0 theirs.world.1 theirs.world.2,
                    theirs.world.3,
                  );
                })
          ];
        }

  -- the pass is one of all
  pub pass_of : (id : TableId) (boxes : ℕ) (all front rest : List (Sight M W)) (s : Sight M W) → all ≡ (front ++ s ∷ []) ++ rest
      → AreAll id boxes all → (s.board ≡ id) × (s.seen.boxes ≡ boxes)
  pass_of id boxes all front rest s are every = let a = every.1 (length front) s (last_at boxes all front rest s are) in (a.0, a.2)

module _ {M : Type 0} where
  -- two parts of one number are one
  same_lane : (l : List (Own M)) (i k n : ℕ) (a b : Own M) → times n (map (λ (o : Own M). o.number) l) ≤ 1 → get_elem? l i ≡ some a
      → get_elem? l k ≡ some b → a.number ≡ n → b.number ≡ n → a ≡ b
  same_lane [] i k n a b once at_a at_b is_a is_b = absurd (some-ne-none a (sym at_a))
  same_lane (x ∷ l) zero zero n a b once at_a at_b is_a is_b = sym (some-injective x a at_a) ∙ some-injective x b at_b
  same_lane (x ∷ l) zero (suc k) n a b once at_a at_b is_a is_b =
      let here : x.number ≡ n = ap (λ (o : Own M). o.number) (some-injective x a at_a) ∙ is_a in
      let one : times n (x.number ∷ []) ≡ 1 = subst (λ m. times n (m ∷ []) ≡ 1) (sym here) (times-one n) in
      let there : 0 < times n (map (λ (o : Own M). o.number) l) =
      subst (λ m. 0 < times m (map (λ (o : Own M). o.number) l)) is_b (number_in l k b at_b) in
      absurd (omega arith)
  same_lane (x ∷ l) (suc i) zero n a b once at_a at_b is_a is_b =
      let here : x.number ≡ n = ap (λ (o : Own M). o.number) (some-injective x b at_b) ∙ is_b in
      let one : times n (x.number ∷ []) ≡ 1 = subst (λ m. times n (m ∷ []) ≡ 1) (sym here) (times-one n) in
      let there : 0 < times n (map (λ (o : Own M). o.number) l) =
      subst (λ m. 0 < times m (map (λ (o : Own M). o.number) l)) is_a (number_in l i a at_a) in
      absurd (omega arith)
  same_lane (x ∷ l) (suc i) (suc k) n a b once at_a at_b is_a is_b = same_lane l i k n a b (omega arith) at_a at_b is_a is_b

  -- a pass that is counted as the maker of an abort is one of the seat's
  some_maker : (l : List (Own M)) (n : ℕ) → 0 < total (made_by n) l
      → (k : ℕ) × (o : Own M) × (get_elem? l k ≡ some o) × (o.number ≡ n) × (o.made ≡ true)
  some_maker [] n some_of = absurd (omega arith)
  some_maker (x ∷ l) n some_of = step x.made refl (λ none. some_maker l n (omega arith))
    where
      step : (m : Bool) → x.made ≡ m
          → (made_by n x ≡ 0 → (k : ℕ) × (o : Own M) × (get_elem? l k ≡ some o) × (o.number ≡ n) × (o.made ≡ true))
          → (k : ℕ) × (o : Own M) × (get_elem? (x ∷ l) k ≡ some o) × (o.number ≡ n) × (o.made ≡ true)
      step false e next = let none : made_by n x ≡ 0 = rw e refl in let r = next none in (suc r.0, r.1, r.2, r.3, r.4)
      step true e next = elim (cases_eq x.number n) [
        | inl same ↦ (0, x, refl, same, e)
        | inr other ↦
            (let none : made_by n x ≡ 0 = rw e (rw (ne_eqb x.number n other) refl) in let r = next none in (suc r.0, r.1, r.2, r.3, r.4))
      ]

first_word_is : (l : List ℕ) (n : ℕ) → get_elem? l 0 ≡ some n → n ≡ get_or l 0 0
first_word_is [] n e = absurd (some-ne-none n (sym e))
first_word_is (x ∷ l) n e = sym (some-injective x n e)

module _ {M W : Type 0} (fits : W → ℕ → M → Type 0) (g : Ground M W) where
  -- what the last state of the table tells the seat that has all passes
  pub record Rests (v : SeatView M W) (n : ℕ) (slots : List (Option (List (Event M)))) : Type 0 where
    pub order : List (Entry M)
    pub first : Option Abort
    pub low : ℕ
    pub sound : IsSound fits (state_of g record { order = order; aborted = first; knows = true })
    pub saw : Saw fits g order first low v.seen
    pub owns : (k : ℕ) (o : Own M) → get_elem? v.lanes k ≡ some o → own o.number order ≡ o.events
    pub boards : (i : ℕ) (k : Ground M W) → get_elem? v.boards i ≡ some k → k ≡ g
    pub once : (m : ℕ) → times m (pass_numbers v) ≤ 1
    pub maker : (a : Abort) → first ≡ Some a → (k : ℕ) × (o : Own M) × (get_elem? v.lanes k ≡ some o) × (o.number ≡ a.by) × (o.made ≡ true)
    pub word : n ≡ low + flag first
    pub small : low < 2 ^ 63
    pub close : (low ≡ 0) ↔ IsClosed order
    pub at : (q : ℕ) → q < g.boxes → get_elem? slots q ≡ some (Some (part q order))

  pub rests : (id n : ℕ) (v : SeatView M W) (words : List ℕ) (slots : List (Option (List (Event M)))) → length v.lanes ≡ g.boxes
      → v.owes ≡ 0
      → ((q : ℕ) → q < g.boxes → (hand_at q v).inside ≡ [])
      → table.Final (table.Seen (Rule fits g) id v) words slots → get_elem? words 0 ≡ some n → Rests v n slots
  rests id n v words slots all owes outside final word =
      let s = final.0 in
      let r = final.1.0 in
      let is_at = final.1.1 in
      let k = r.each id v is_at in
      let none : (j : ℕ) (u : SeatView M W) → j ≢ id → get_elem? s.views j ≡ some u → length u.lanes ≡ 0 =
      λ j u ne at.
      (let two = total_two (λ (z : SeatView M W). length z.lanes) s.views id j v u (λ e. ne (sym e)) is_at at in omega (arith, r.whole)) in
      let no_more : owed s.views ≡ 0 = total_only (λ (z : SeatView M W). z.owes) s.views id v is_at
      (λ j u ne at. (r.each j u at).idle (none j u ne at)) ∙ owes in
      let counts = counted_closed g.boxes r.order r.sound.lawful in
      record {
        order = r.order;
        first = r.first;
        low = r.low;
        sound = record { lawful = r.sound.lawful; fitting = r.sound.fitting; by = r.sound.by };
        saw = k.saw;
        owns = k.owns;
        boards = k.board;
        once = λ m. omega (arith, total_at (λ (z : SeatView M W). times m (pass_numbers z)) s.views id v is_at, r.once m);
        maker =
            λ a e.
            some_maker v.lanes a.by
            (omega (arith, r.maker a e, total_only (makes a.by) s.views id v is_at (λ j u ne at. nobody a.by u.lanes (none j u ne at))));
        word = first_word_is words n word ∙ (ap (λ l. get_or l 0 0) (sym final.2) ∙ r.word);
        small = omega (arith, r.few);
        close = (
          (λ z. closed_at_zero g.boxes r.order r.low (owed s.views) r.sound.lawful r.count z),
          λ closed. omega (arith, counts.1 closed, r.count, no_more),
        );
        at = λ q near.
            let l = r.locks q near in
            let core = l.1.core in
            let hands : List (Hand (List (Event M))) = map (hand_at q) s.views in
            let nobody_in : total (λ (h : Hand (List (Event M))). length h.inside) hands ≡ 0 =
            total-map (hand_at q) (λ (h : Hand (List (Event M))). length h.inside) s.views
            ∙ (total_only (λ (u : SeatView M W). length (hand_at q u).inside) s.views id v is_at
            (λ j u ne at.
            ap length
            ((core.each j (hand_at q u) (at-map (hand_at q) s.views j u at)).idle ((r.each j u at).parts q near ∙ none j u ne at)).1)
            ∙ ap length (outside q near)) in
            let home = core.home nobody_in in
            let is : home.0 ≡ part q r.order = EndsIn-same l.0 home.0 (part q r.order) home.1 l.2 in
            final.4 q (Some (part q r.order)) (home.2 ∙ ap (λ x. some (some (Some x))) is);
      }
    where
      nobody : (m : ℕ) (l : List (Own M)) → length l ≡ 0 → total (made_by m) l ≡ 0
      nobody m [] e = refl
      nobody m (x ∷ l) e = absurd (omega arith)

  pub ends_is : (v : SeatView M W) (n : ℕ) (slots : List (Option (List (Event M)))) (r : Rests v n slots)
      (histories : List (List (Event M)))
      → length histories ≡ g.boxes → ((q : ℕ) (h : List (Event M)) → slice_get histories q ≡ Some h → get_elem? slots q ≡ some (Some h))
      → BoardEnds fits g v histories (nat_eq (n % 2 ^ 63) 0)
  ends_is v n slots r histories count taken = record {
    order = r.order;
    first = r.first;
    low = r.low;
    sound = r.sound;
    saw = r.saw;
    owns = r.owns;
    boards = r.boards;
    once = r.once;
    maker = r.maker;
    count = count;
    parts =
        λ q h at. same_history h (part q r.order) (sym (taken q h at) ∙ r.at q (omega (arith, count, slice_get_within histories q h at)));
    close = (
      (λ yes_it. r.close.0 (low_zero r.low n r.first r.small r.word (eqb-true (n % 2 ^ 63) 0 yes_it))),
      λ closed. zero_low (r.close.1 closed),
    );
    known = λ e. zero_low (r.saw.close e).0;
  }
    where
      same_history : (h k : List (Event M))
          → (let a : maybe.Option (Option (List (Event M))) = some (Some h) in
          let b : maybe.Option (Option (List (Event M))) = some (Some k) in a ≡ b) → h ≡ k
      same_history h k e = cc

      flag_whole : (a : Option Abort) → flag a % 2 ^ 63 ≡ 0
      flag_whole None = refl
      flag_whole (Some a) = refl

      zero_low : r.low ≡ 0 → nat_eq (n % 2 ^ 63) 0 ≡ true
      zero_low z = eq-eqb (n % 2 ^ 63) 0 (ap (λ k. k % 2 ^ 63) (r.word ∙ (ap (λ k. k + flag r.first) z ∙ omega arith)) ∙ flag_whole r.first)

  -- what is left of the board is what it promises
  pub settles_is : (id : TableId) (all : List (Sight M W)) (me : Seat M W) (histories : List (List (Event M))) (closed : Bool)
      → AreAll id g.boxes all → Gathered g.boxes all 0 me → BoardEnds fits g me.0 histories closed
      → Settles fits g.boxes all histories closed
  settles_is id all me histories closed every gathered e =
      let has : (j : ℕ) (s : Sight M W) → slice_get all j ≡ Some s → TookInPass s me.0 = λ j s at. gathered.each j s (omega arith) at in
      record {
        order = e.order;
        lawful = e.sound.lawful;
        fitting = λ j s at i to sender m t there.
            let w = (has j s at).world in
            subst (λ z. fits z to m) (sym (ap (λ (k : Ground M W). k.world.value) (e.boards w.0 w.1 w.2)) ∙ w.3)
            (e.sound.fitting i to sender m t there);
        begins = λ j s at. StartsWith-trans e.order me.0.seen.order s.seen.order e.saw.begins (has j s at).begins;
        own = λ j s at. let l = (has j s at).lane in
            subst (λ n. own n e.order ≡ own n s.seen.order) (every.1 j s at).1 (e.owns l.0 (own_of s) l.1);
        count = e.count;
        parts = e.parts;
        close = e.close;
        known = λ j s at is. e.known ((has j s at).knows is);
        aborts = λ j s a at is.
            let now = e.saw.aborted a ((has j s at).aborted a is) in
            let m = e.maker a now in
            let who = element_at all a.by (omega (arith, every.0, e.sound.by a now)) in
            let l = (has a.by who.0 who.1).lane in
            let same : own_of who.0 ≡ m.1 =
            same_lane me.0.lanes l.0 m.0 a.by (own_of who.0) m.1 (e.once a.by) l.1 m.2 (every.1 a.by who.0 who.1).1 m.3 in
            (who.0, who.1, ap (λ (o : Own M). o.made) same ∙ m.4);
      }
