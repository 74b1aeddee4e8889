-- Each step on the word of outstanding posts may be taken, and what the word says of an abort.
use Rattle.std.proofs.Common.{◌≡◌, ◌≢◌, ◌⊎◌, inl, inr, ℕ, ◌+◌, ◌-◌, ◌*◌, ◌^◌, ◌%◌, ◌<◌, ◌≤◌, ◌==◌, ◌||◌, if◌then◌else◌, Bool}
use Rattle.std.proofs.Common.{true, false}
use Rattle.std.proofs.Common.{List, [], ◌∷◌, map, length, set, get_or, Some, None, refl, sym, ap, ◌∙◌, subst, arith, Option, length-set}
use Rattle.std.proofs.Common.{get_or-set_same, eq-eqb, lt_of_not-le}
use Rattle.std.proofs.lemmas.Bool.{eqb-true}
use Rattle.std.proofs.lemmas.Nat.{or_shifted, or_block, or_comm}
use Rattle.std.specs.Int.Bits.{bit_or}
use Rattle.std.specs.Prelude.{IsSome}
use mathlib.Core.Option.{some}
use native.Mathlib.Decide.{dec_le}
use lib.ListN.{get_elem?}
use Rattle.atomic_table.specs.Table as table
use Rattle.ticket_lock.specs.Count.{times, total}
use Rattle.ticket_lock.specs.History.{StartsWith}
use Rattle.ticket_lock.specs.Proved.Facts.{total_set, total_at, total_two, set_here, at_inside, times-one, StartsWith-refl}
use Rattle.ticket_lock.proofs.HistoryFacts.{total_only}
use Rattle.ticket_lock.proofs.HandLemmas.{at_only}
use Rattle.ticket_lock.proofs.HistoryFacts.{StartsWith-length, StartsWith-whole}
use Rattle.ticket_lock.proofs.LoneSteps.{longer_first, longer_second, longer_begins, longer_whole}
use Rattle.post_ledger.specs.declared.entry.Entry.{Entry}
use Rattle.post_ledger.specs.Orders.{own, HasJob}
use Rattle.post_ledger.proofs.Orders.{no_job, own-append}
use Rattle.switchboard.specs.declared.calls.Abort.{Abort}
use Rattle.switchboard.specs.declared.lock_per_box.knowing.Ground.{Ground}
use Rattle.switchboard.specs.declared.lock_per_box.knowing.Seen.{Seen}
use Rattle.switchboard.specs.declared.lock_per_box.knowing.Own.{Own}
use Rattle.switchboard.specs.Sights.{IsSound, abort_of}
use Rattle.switchboard.specs.Proved.Entries.{job_stays}
use Rattle.switchboard.specs.Knowing.{either_abort, state_of, both_seen, with_seen, pass_numbers, makes, made_by, counted_up, counted_down}
use Rattle.switchboard.specs.Knowing.{made_abort, informed}
use Rattle.switchboard.specs.PerBox.{SeatView, flag, Saw, Rule, LookedAtWord, CountedUp, Raised, SeatTookIn, Seat, owed, Boxes}
use Rattle.switchboard.specs.Proved.PerBoxFacts.{BoardGrows, grows_same, saw_grows, saw_all, sound_with, closed_at_zero, fewer_dones}
use Rattle.switchboard.specs.Proved.PerBoxFacts.{news_is, rebuilt, locks_still, made_still}

flag_small : (a : Option Abort) → flag a ≤ 2 ^ 63
flag_small None = omega arith
flag_small (Some a) = omega arith

-- bit 63 is clear if there was no abort
pub not_flagged : (low : ℕ) (a : Option Abort) → low + flag a < 2 ^ 63 → a ≡ None
not_flagged low None small = refl
not_flagged low (Some a) small = absurd (omega arith)

pub flagged : (low : ℕ) (a : Option Abort) → low < 2 ^ 63 → 2 ^ 63 ≤ low + flag a → IsSome a
flagged low None small large = absurd (omega arith)
flagged low (Some a) small large = refl

-- bit 63 is set, whatever it was
or_flag : (low : ℕ) (first : Option Abort) (a : Abort) → low < 2 ^ 63 → bit_or (low + flag first) (2 ^ 63) ≡ low + flag (abort_of first a)
or_flag low None a small =
    let e : low + 0 ≡ low = omega arith in
    let one : 2 ^ 63 ≡ 1 * 2 ^ 63 = omega arith in
    ap (λ k. bit_or k (2 ^ 63)) e ∙ (ap (bit_or low) one ∙ (or_comm low (1 * 2 ^ 63) ∙ (or_shifted 1 63 low small ∙ omega arith)))
or_flag low (Some b) a small =
    let e : low + 2 ^ 63 ≡ 1 * 2 ^ 63 + low = omega arith in
    let one : 2 ^ 63 ≡ 1 * 2 ^ 63 + 0 = omega arith in
    let zero_or : bit_or low 0 ≡ low = or_comm low 0 in
    ap (λ k. bit_or k (2 ^ 63)) e
    ∙ (ap (bit_or (1 * 2 ^ 63 + low)) one
    ∙ (or_block 63 1 1 low 0 small (omega arith) ∙ (ap (λ k. bit_or 1 1 * 2 ^ 63 + k) zero_or ∙ omega arith)))

module _ {M W : Type 0} (fits : W → ℕ → M → Type 0) (g : Ground M W) where
  -- what a look at the word tells
  module _ (s : Boxes M W) (r : Rule fits g s) (id : ℕ) (m : Seat M W) (is_at : get_elem? s.views id ≡ some m.0) where
    abbrev as_it_is : Seen M
    as_it_is = record { order = r.order; aborted = r.first; knows = r.low == 0 }

    saw_it : Saw fits g r.order r.first r.low as_it_is
    saw_it = saw_all fits g r.order r.first r.low as_it_is r.sound refl (λ a e. e) (λ e. eqb-true r.low 0 e)

    looked_at : LookedAtWord fits m (get_or s.words 0 0) (with_seen as_it_is m.0, m.1)
    looked_at =
        let k = r.each id m.0 is_at in
        record {
          after = refl;
          news = news_is fits g s r id m.0 is_at r.order r.first r.low (owed s.views) as_it_is r.sound.lawful r.count saw_it k.saw.begins
              k.saw.aborted (λ e. eq-eqb r.low 0 (k.saw.close e).0);
          own = k.owns;
          low = r.low;
          small = omega (arith, r.few);
          found = r.word;
          knows = refl;
        }

  -- a pass with a job looks, and counts up
  pub counts_up : (slots id : ℕ) (m : Seat M W) (job : ℕ) (o : Own M) → m.0.lanes ≡ o ∷ [] → own o.number m.0.seen.order ≡ o.events
      → HasJob o.number job m.0.seen.order → 0 < m.0.budget
      → table.Allows (Rule fits g) slots id m 0 (λ n. (n + 1) % 2 ^ 64) (CountedUp fits job m)
  counts_up slots id m job o lanes list has some_of s r len is_at small =
      let v : SeatView M W = m.0 in
      let x : Seen M = as_it_is s r id m is_at in
      let w : SeatView M W = counted_up job (with_seen x v) in
      let k = r.each id v is_at in
      let mine : own o.number v.seen.order ≡ own o.number r.order = list ∙ sym (k.owns 0 o (ap (λ l. get_elem? l 0) lanes)) in
      let has_still = job_stays o.number job v.seen.order r.order mine has in
      let open_still : r.low ≡ 0 → ⊥ = λ e. no_job g.boxes r.order o.number job r.sound.lawful
      (closed_at_zero g.boxes r.order r.low (owed s.views) r.sound.lawful r.count e) has_still in
      let on : BoardGrows r.order r.order r.first r.first r.low
      (r.low + 1) = record { begins = StartsWith-refl r.order; aborted = λ a e. e; still = λ e. absurd (open_still e) } in
      let n : ℕ = (get_or s.words 0 0 + 1) % 2 ^ 64 in
      let budget = total_at (λ (u : SeatView M W). u.budget) s.views id v is_at in
      let e : n ≡ r.low + 1 + flag r.first = omega (arith, r.word, r.few, flag_small r.first) in
      let holds =
      rebuilt fits g s r id v is_at r.order r.first (r.low + 1) (set s.words 0 n) s.homes w on (λ j _. refl) r.sound
      (locks_still fits g s r id v is_at n w (λ q. refl))
      (omega (arith, length-set s.words 0 n, r.some_word)) (get_or-set_same s.words 0 n 0 r.some_word ∙ e) (omega (arith, r.count))
      (omega arith) record {
        board = k.board;
        saw = saw_grows fits g r.order r.order r.first r.first r.low (r.low + 1) x on (saw_it s r id m is_at);
        told = saw_grows fits g r.order r.order r.first r.first r.low (r.low + 1) v.told on k.told;
        owns = k.owns;
        parts = k.parts;
        idle = λ none. absurd (omega (arith, ap length lanes));
      } refl (made_still fits g s r id v is_at w (λ j. refl)) in
      (w, table.keeps, tt, holds, ((with_seen x v, m.1), looked_at s r id m is_at, refl))

  -- a pass whose Done is recorded counts down
  pub counts_down : (slots id : ℕ) (m : Seat M W) → 0 < m.0.owes
      → table.Allows (Rule fits g) slots id m 0 (λ n. (n + (2 ^ 64 - 1)) % 2 ^ 64) (λ n w. w ≡ (counted_down m.0, m.1))
  counts_down slots id m some_of s r len is_at small =
      let v : SeatView M W = m.0 in
      let w : SeatView M W = counted_down v in
      let k = r.each id v is_at in
      let owes = total_at (λ (u : SeatView M W). u.owes) s.views id v is_at in
      let above : 0 < r.low = omega (arith, r.count, fewer_dones g.boxes r.order r.sound.lawful) in
      let on : BoardGrows r.order r.order r.first r.first r.low
      (r.low - 1) = record { begins = StartsWith-refl r.order; aborted = λ a e. e; still = λ e. absurd (omega arith) } in
      let n : ℕ = (get_or s.words 0 0 + (2 ^ 64 - 1)) % 2 ^ 64 in
      let e : n ≡ r.low - 1 + flag r.first = omega (arith, r.word, r.few, flag_small r.first) in
      let holds =
      rebuilt fits g s r id v is_at r.order r.first (r.low - 1) (set s.words 0 n) s.homes w on (λ j _. refl) r.sound
      (locks_still fits g s r id v is_at n w (λ q. refl))
      (omega (arith, length-set s.words 0 n, r.some_word)) (get_or-set_same s.words 0 n 0 r.some_word ∙ e) (omega (arith, r.count))
      (omega arith) record {
        board = k.board;
        saw = saw_grows fits g r.order r.order r.first r.first r.low (r.low - 1) v.seen on k.saw;
        told = saw_grows fits g r.order r.order r.first r.first r.low (r.low - 1) v.told on k.told;
        owns = k.owns;
        parts = k.parts;
        idle = λ none. omega (arith, k.idle none);
      } refl (made_still fits g s r id v is_at w (λ j. refl)) in
      (w, table.keeps, tt, holds, refl)

  -- what a seat sees and was told changes, and nothing else
  sees : (s : Boxes M W) (r : Rule fits g s) (id : ℕ) (v : SeatView M W) → get_elem? s.views id ≡ some v → (x y : Seen M)
      → Saw fits g r.order r.first r.low x → Saw fits g r.order r.first r.low y
      → Rule fits g record {
        words = set s.words 0 (get_or s.words 0 0);
        homes = s.homes;
        views = set s.views id (record v { seen = x; told = y });
      }
  sees s r id v is_at x y saw told =
      let n : ℕ = get_or s.words 0 0 in
      let w : SeatView M W = record v { seen = x; told = y } in
      let k = r.each id v is_at in
      rebuilt fits g s r id v is_at r.order r.first r.low (set s.words 0 n) s.homes w
      (grows_same r.order r.first r.low) (λ j _. refl) r.sound
      (locks_still fits g s r id v is_at n w (λ q. refl))
      (omega (arith, length-set s.words 0 n, r.some_word)) (get_or-set_same s.words 0 n 0 r.some_word ∙ r.word) (omega (arith, r.count))
      (omega arith) record { board = k.board; saw = saw; told = told; owns = k.owns; parts = k.parts; idle = k.idle }
      refl (made_still fits g s r id v is_at w (λ j. refl))

  -- a look at the word
  pub looks : (slots id : ℕ) (m : Seat M W) → table.Allows (Rule fits g) slots id m 0 (λ n. n) (LookedAtWord fits m)
  looks slots id m s r len is_at small =
      let v : SeatView M W = m.0 in
      let x : Seen M = as_it_is s r id m is_at in (
        with_seen x v,
        table.keeps,
        tt,
        sees s r id v is_at x v.told (saw_it s r id m is_at) (r.each id v is_at).told,
        looked_at s r id m is_at,
      )

  -- a seat takes in what it was told
  took_seen : (order : List (Entry M)) (first : Option Abort) (low : ℕ) (x y : Seen M) → ((a : Abort) → first ≡ Some a → a.by < g.boxes)
      → Saw fits g order first low x → Saw fits g order first low y → Saw fits g order first low (both_seen x y)
  took_seen order first low x y by a b =
      let l = longer_begins order x.order y.order a.begins b.begins in
      let abort : (c : Abort) → either_abort x.aborted y.aborted ≡ Some c → first ≡ Some c =
      one_of x.aborted y.aborted a.aborted b.aborted in
      record {
        begins = l.0;
        sound = λ some_of. elim (dec_le (length y.order) (length x.order)) [
          | yes d ↦
              (let same = longer_first x.order y.order d in
              sound_with fits g order first x (both_seen x y) (a.sound (omega (arith, ap length same))) (sym same)
              (λ c e. by c (abort c e)))
          | no d ↦
              (let same = longer_second x.order y.order (lt_of_not-le d) in
              sound_with fits g order first y (both_seen x y) (b.sound (omega (arith, ap length same))) (sym same)
              (λ c e. by c (abort c e)))
        ];
        aborted = abort;
        close = λ e. elim (known x.knows y.knows e) [
          | inl p ↦ (let c = a.close p in (c.0, longer_whole order x.order y.order a.begins b.begins (inl c.1)))
          | inr p ↦ (let c = b.close p in (c.0, longer_whole order x.order y.order a.begins b.begins (inr c.1)))
        ];
      }
    where
      one_of : (p q : Option Abort) → ((c : Abort) → p ≡ Some c → first ≡ Some c) → ((c : Abort) → q ≡ Some c → first ≡ Some c)
          → (c : Abort) → either_abort p q ≡ Some c → first ≡ Some c
      one_of None q f h c e = h c e
      one_of (Some b) q f h c e = f c e

      known : (p q : Bool) → p || q ≡ true → (p ≡ true) ⊎ (q ≡ true)
      known true q e = inl refl
      known false q e = inr e

  -- an own list that stays from first to last is the same in between
  between : (n : ℕ) (a b c : List (Entry M)) → StartsWith b a → StartsWith c b → own n c ≡ own n a → own n b ≡ own n a
  between n a b c p q same =
      let more : (l m : List (Entry M)) → StartsWith l m → StartsWith (own n l) (own n m) =
      λ l m t. (own n t.0, ap (own n) t.1 ∙ own-append n m t.0) in
      let short = StartsWith-length (own n c) (own n b) (more c b q) in
      StartsWith-whole (own n b) (own n a) (more b a p) (omega (arith, ap length same))

  pub takes_in : (slots id : ℕ) (m : Seat M W) → table.Allows (Rule fits g) slots id m 0 (λ n. n) (λ n. SeatTookIn fits m)
  takes_in slots id m s r len is_at small =
      let v : SeatView M W = m.0 in
      let x : Seen M = both_seen v.seen v.told in
      let w : SeatView M W = informed v in
      let k = r.each id v is_at in
      let l = longer_begins r.order v.seen.order v.told.order k.saw.begins k.told.begins in
      let saw : Saw fits g r.order r.first r.low x = took_seen r.order r.first r.low v.seen v.told r.sound.by k.saw k.told in (
        w,
        table.keeps,
        tt,
        sees s r id v is_at x _ saw
            (record { begins = (r.order, refl); sound = λ e. absurd (omega arith); aborted = λ a e. cc; close = λ e. cc }),
        record {
          after = refl;
          news = news_is fits g s r id v is_at r.order r.first r.low (owed s.views) x r.sound.lawful r.count saw l.1
              (λ a e. mine v.seen.aborted v.told.aborted a e) (λ e. knew v.seen.knows v.told.knows e);
          theirs = l.2;
          aborted = λ a e. theirs v.seen.aborted v.told.aborted r.first a k.saw.aborted (k.told.aborted a e) e;
          own = λ i o at list. between o.number v.seen.order x.order r.order l.1 l.0 (k.owns i o at ∙ sym list) ∙ list;
        },
      )
    where
      mine : (p q : Option Abort) (a : Abort) → p ≡ Some a → either_abort p q ≡ Some a
      mine None q a e = cc
      mine (Some b) q a e = e

      knew : (p q : Bool) → p ≡ true → p || q ≡ true
      knew true q e = refl
      knew false q e = cc

      theirs : (p q first : Option Abort) (a : Abort) → ((c : Abort) → p ≡ Some c → first ≡ Some c) → first ≡ Some a → q ≡ Some a
          → either_abort p q ≡ Some a
      theirs None q first a f is e = e
      theirs (Some b) q first a f is e = sym (f b refl) ∙ is

  -- a pass that has made no abort raises bit 63
  pub raises : (slots id : ℕ) (m : Seat M W) (a : Abort) (o : Own M) → m.0.lanes ≡ o ∷ [] → o.number ≡ a.by → o.made ≡ false
      → a.by < g.boxes → table.Allows (Rule fits g) slots id m 0 (λ n. bit_or n (2 ^ 63)) (λ n. Raised fits a m)
  raises slots id m a o lanes by none near s r len is_at small =
      let v : SeatView M W = m.0 in
      let first : Option Abort = abort_of r.first a in
      let x : Seen M = record { order = r.order; aborted = first; knows = v.seen.knows } in
      let w : SeatView M W = record v { lanes = map made_abort v.lanes; seen = x } in
      let k = r.each id v is_at in
      let n : ℕ = bit_or (get_or s.words 0 0) (2 ^ 63) in
      let low_small : r.low < 2 ^ 63 = omega (arith, r.few) in
      let e : n ≡ r.low + flag first = ap (λ (i : ℕ). bit_or i (2 ^ 63)) r.word ∙ or_flag r.low r.first a low_small in
      let on : BoardGrows r.order r.order r.first first r.low
      r.low = record { begins = StartsWith-refl r.order; aborted = λ b is. stays r.first b is; still = λ z. (z, refl) } in
      let sound : IsSound fits
      (state_of g record { order = r.order; aborted = first; knows = false }) = record {
        lawful = r.sound.lawful;
        fitting = r.sound.fitting;
        by = λ b is. one r.first b r.sound.by is;
      } in
      let saw : Saw fits g r.order first r.low x =
      saw_all fits g r.order first r.low x sound refl (λ b is. is) (λ is. (k.saw.close is).0) in
      let now : w.lanes ≡ made_abort o ∷ [] = ap (map made_abort) lanes in
      let no_more : (j : ℕ) → makes j v ≡ 0 = λ j. ap (total (made_by j)) lanes ∙ none_made j in
      let holds =
      rebuilt fits g s r id v is_at r.order first r.low (set s.words 0 n) s.homes w on (λ j _. refl) sound
      (locks_still fits g s r id v is_at n w (λ q. refl))
      (omega (arith, length-set s.words 0 n, r.some_word)) (get_or-set_same s.words 0 n 0 r.some_word ∙ e) (omega (arith, r.count))
      (omega arith) record {
        board = k.board;
        saw = saw;
        told = saw_grows fits g r.order r.order r.first first r.low r.low v.told on k.told;
        owns = λ i p at. at_only (λ (z : Own M). own z.number r.order ≡ z.events) (made_abort o)
            (k.owns 0 o (ap (λ l. get_elem? l 0) lanes)) i p (subst (λ l. get_elem? l i ≡ some p) now at);
        parts = λ q short. k.parts q short ∙ (ap length lanes ∙ sym (ap length now));
        idle = λ z. absurd (omega (arith, ap length now));
      } (ap (map (λ (p : Own M). p.number)) now ∙ sym (ap (map (λ (p : Own M). p.number)) lanes))
      (λ b is.
      makers r.first b is (λ old. let t = total_set (makes b.by) s.views id v w is_at in let z = no_more b.by in
      omega (arith, r.maker b old))
      (λ same. let here = total_at (makes b.by) (set s.views id w) id w (set_here s.views id w (at_inside s.views id v is_at)) in
      let one_of : makes b.by w ≡ 1 = ap (total (made_by b.by)) now ∙ made_here b.by (by ∙ ap (λ (c : Abort). c.by) same) in
      omega arith)) in (
        w,
        table.keeps,
        tt,
        holds,
        record {
          after = refl;
          news = news_is fits g s r id v is_at r.order first r.low (owed s.views) x r.sound.lawful r.count saw k.saw.begins
              (λ b is. stays r.first b (k.saw.aborted b is)) (λ is. is);
          own = k.owns;
          knows = refl;
          which = which r.first (λ c is same. let t = r.maker c is in
              let others : (j : ℕ) (u : SeatView M W) → j ≢ id → get_elem? s.views j ≡ some u → makes c.by u ≡ 0 =
              λ j u ne at.
              (let two = total_two (λ (z : SeatView M W). times c.by (pass_numbers z)) s.views id j v u (λ i. ne (sym i)) is_at at in
              let here : times c.by (pass_numbers v) ≡ 1 = ap (λ l. times c.by (map (λ (p : Own M). p.number) l)) lanes
              ∙ subst (λ i. times i (o.number ∷ []) ≡ 1) (by ∙ sym same) (times-one o.number) in
              omega (arith, r.once c.by, few_made c.by u.lanes)) in
              let all = total_only (makes c.by) s.views id v is_at others in let z = no_more c.by in omega arith);
        },
      )
    where
      stays : (p : Option Abort) (b : Abort) → p ≡ Some b → abort_of p a ≡ Some b
      stays None b e = cc
      stays (Some c) b e = e

      one : (p : Option Abort) (b : Abort) → ((c : Abort) → p ≡ Some c → c.by < g.boxes) → abort_of p a ≡ Some b → b.by < g.boxes
      one None b old e = (let same : a ≡ b = cc in subst (λ (c : Abort). c.by < g.boxes) same near)
      one (Some c) b old e = old b e

      none_made : (j : ℕ) → total (made_by j) (o ∷ []) ≡ 0
      none_made j = rw none refl

      made_here : (j : ℕ) → o.number ≡ j → total (made_by j) (made_abort o ∷ []) ≡ 1
      made_here j e = rw (eq-eqb o.number j e) refl

      makers : (p : Option Abort) (b : Abort) {A : Type 0} → abort_of p a ≡ Some b → (p ≡ Some b → A) → (a ≡ b → A) → A
      makers None b e old new = new cc
      makers (Some c) b e old new = old e

      few_made : (j : ℕ) (l : List (Own M)) → total (made_by j) l ≤ times j (map (λ (p : Own M). p.number) l)
      few_made j [] = omega arith
      few_made j (p ∷ l) = omega (arith, few_made j l, one_made p.made (p.number == j))
        where
          one_made : (b c : Bool) → (if b then (if c then 1 else 0) else 0) ≤ (if c then 1 else 0)
          one_made true true = omega arith
          one_made true false = omega arith
          one_made false true = omega arith
          one_made false false = omega arith

      which : (p : Option Abort) → ((c : Abort) → p ≡ Some c → c.by ≡ a.by → ⊥)
          → (b : Abort) × (abort_of p a ≡ Some b) × ((b ≡ a) ⊎ (b.by ≢ a.by))
      which None f = (a, refl, inl refl)
      which (Some c) f = (c, refl, inr (f c refl))
