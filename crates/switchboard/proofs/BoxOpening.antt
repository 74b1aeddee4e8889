-- The rule of a board with a lock for each mailbox holds for a new board, and the passes that are dealt.
use Rattle.std.proofs.Common.{◌≡◌, ◌≢◌, ℕ, zero, suc, ◌+◌, ◌-◌, ◌*◌, ◌^◌, ◌<◌, ◌≤◌, false, List, [], ◌∷◌, ◌++◌, map, length, get_or}
use Rattle.std.proofs.Common.{slice_get}
use Rattle.std.proofs.Common.{Some, None, refl, sym, ap, ◌∙◌, subst, arith, Option}
use mathlib.Core.Option.{some, some-injective, some-ne-none}
use mathlib.Core.Logic.{dite}
use native.Mathlib.Decide.{ℕ_discrete}
use lib.ListN.{get_elem?}
use Rattle.atomic_table.specs.Table as table
use Rattle.atomic_table.specs.Seated.{TableId}
use Rattle.ticket_lock.specs.declared.hand.Hand.{Hand}
use Rattle.ticket_lock.specs.Count.{times}
use Rattle.ticket_lock.specs.Core.{TicketCore}
use Rattle.ticket_lock.specs.Proved.Facts.{times-one, StartsWith-refl}
use Rattle.ticket_lock.proofs.HistoryFacts.{times-other}
use Rattle.ticket_lock.proofs.HandLemmas.{Divides, divides_new, core_new, at_only}
use Rattle.post_ledger.specs.declared.event.Event.{Event}
use Rattle.post_ledger.specs.declared.entry.Entry.{Entry}
use Rattle.post_ledger.specs.declared.entry.Entry.TheVariants.{Posted}
use Rattle.post_ledger.specs.Orders.{part, own}
use Rattle.post_ledger.proofs.Orders.{own_else}
use Rattle.switchboard.specs.declared.lock_per_box.knowing.Ground.{Ground}
use Rattle.switchboard.specs.declared.lock_per_box.knowing.Own.{Own}
use Rattle.switchboard.specs.Sights.{Sight, IsSound, opened, fresh_sight, fresh_sights}
use Rattle.switchboard.specs.Knowing.{fresh_hand, fresh_hands, owns_from, first_seen, state_of, hand_at, first_view, without_first_pass}
use Rattle.switchboard.specs.Knowing.{first_pass_alone}
use Rattle.switchboard.specs.PerBox.{SeatView, word_of, IsBoardTable, KnowsBoard, Rule, Seat}
use Rattle.switchboard.specs.BoxPasses.{IsIdleHand, box_sight, IsBoxPass}
use Rattle.switchboard.proofs.Opening.{sound_open, sights_push}
use Rattle.switchboard.proofs.BoxSeats.{saw_none, splits}

module _ {T : Type 0} where
  pub bares_at : (n k q : ℕ) → q < n → get_or (fresh_hands n k) q (fresh_hand {T = T} 0) ≡ fresh_hand k
  bares_at zero k q near = absurd (omega arith)
  bares_at (suc n) k zero near = refl
  bares_at (suc n) k (suc q) near = bares_at n k q (omega arith)

  fewer_bares : (n k : ℕ)
      → (let less : Hand T → Hand T = λ h. fresh_hand (h.parts - 1) in map less (fresh_hands n (suc k)) ≡ fresh_hands n k)
  fewer_bares zero k = refl
  fewer_bares (suc n) k = let one : suc k - 1 ≡ k = omega arith in λ i. fresh_hand (one i) ∷ fewer_bares n k i

  one_bares : (n k : ℕ) → (let one : Hand T → Hand T = λ h. fresh_hand 1 in map one (fresh_hands n k) ≡ fresh_hands n 1)
  one_bares zero k = refl
  one_bares (suc n) k = ap (λ l. fresh_hand 1 ∷ l) (one_bares n k)

  -- what lies in a slot of a new table
  at_home : (l : List (Option T)) (q : ℕ) (x : T) → q < length l → ((h : Option T) → slice_get l q ≡ Some h → h ≡ Some x)
      → get_elem? (map some l) q ≡ some (some (Some x))
  at_home [] q x near is = absurd (omega arith)
  at_home (h ∷ l) zero x near is = ap (λ z. some (some z)) (is h refl)
  at_home (h ∷ l) (suc q) x near is = at_home l q x (omega arith) is

module _ (M : Type 0) where
  length-owns : (first count : ℕ) → length (owns_from {M = M} first count) ≡ count
  length-owns first zero = refl
  length-owns first (suc count) = ap suc (length-owns (suc first) count)

  owns_below : (first count n : ℕ) → n < first → times n (map (λ (o : Own M). o.number) (owns_from first count)) ≡ 0
  owns_below first zero n lt = refl
  owns_below first (suc count) n lt = let none : times n (first ∷ []) ≡ 0 = times-other n first (λ e. omega arith) in
      omega (arith, owns_below (suc first) count n (omega arith))

  owns_once : (first count n : ℕ) → times n (map (λ (o : Own M). o.number) (owns_from first count)) ≤ 1
  owns_once first zero n = omega arith
  owns_once first (suc count) n = dite (ℕ_discrete first n)
      (λ (e : first ≡ n). let one : times n (first ∷ []) ≡ 1 = subst (λ k. times n (k ∷ []) ≡ 1) (sym e) (times-one n) in
      omega (arith, owns_below (suc first) count n (omega arith)))
      (λ (ne : first ≢ n). let none : times n (first ∷ []) ≡ 0 = times-other n first ne in omega (arith, owns_once (suc first) count n))

  -- each of them made no event
  owns_at : (first count k : ℕ) (o : Own M) → get_elem? (owns_from first count) k ≡ some o → (o.number < first + count) × (o.events ≡ [])
  owns_at first zero k o e = absurd (some-ne-none o (sym e))
  owns_at first (suc count) zero o e =
      let is : record { number = first; events = []; made = false } ≡ o =
      some-injective record { number = first; events = []; made = false } o e in
      (omega (arith, ap (λ (z : Own M). z.number) is), sym (ap (λ (z : Own M). z.events) is))
  owns_at first (suc count) (suc k) o e = let r = owns_at (suc first) count k o e in (omega (arith, r.0), r.1)

module _ {M W : Type 0} (fits : W → ℕ → M → Type 0) (g : Ground M W) (near : g.to < g.boxes) (few : g.boxes ≤ 64)
    (fit : fits g.world.value g.to g.first) where
  abbrev first_order : List (Entry M)
  first_order = Posted g.to g.boxes g.first 0 ∷ []

  sound : IsSound fits (state_of g record { order = first_order; aborted = None; knows = false })
  sound = sound_open fits g.world.value g.boxes g.to g.first near fit

  -- no pass made the opening post
  none_own : (n : ℕ) → n < g.boxes → own n first_order ≡ []
  none_own n short = own_else n (Posted g.to g.boxes g.first 0) [] (λ e. omega arith)

  pub opens : (words : List ℕ) (slots : List (Option (List (Event M)))) → length words ≡ 8 * (g.boxes + 1) → get_or words 0 0 ≡ 1
      → ((k : ℕ) → 0 < k → get_or words k 0 ≡ 0) → length slots ≡ g.boxes
      → ((q : ℕ) (h : Option (List (Event M))) → slice_get slots q ≡ Some h → h ≡ Some (part q first_order))
      → Rule fits g (table.opening words slots (first_view g 0 g.boxes))
  opens words slots long one zeros many boxes =
      let v : SeatView M W = first_view g 0 g.boxes in
      let saw : Rattle.switchboard.specs.PerBox.Saw fits g first_order None 1
      (first_seen g) = record { begins = StartsWith-refl first_order; sound = λ _. sound; aborted = λ a e. cc; close = λ e. cc } in
      record {
        order = first_order;
        first = None;
        low = 1;
        sound = sound;
        locks = λ q short. (
          part q first_order ∷ [],
          record {
            room = omega arith;
            core =
                subst
                (λ a.
                TicketCore a (get_or words (word_of q + 1) 0) (part q first_order ∷ []) (get_elem? (map some slots) q)
                (hand_at q v ∷ []))
                (sym (zeros (word_of q) (omega arith)))
                (subst (λ b. TicketCore 0 b (part q first_order ∷ []) (get_elem? (map some slots) q) (hand_at q v ∷ []))
                (sym (zeros (word_of q + 1) (omega arith)))
                (subst (λ h. TicketCore 0 0 (part q first_order ∷ []) (get_elem? (map some slots) q) (h ∷ []))
                (sym (bares_at g.boxes g.boxes q short))
                (core_new [] g.boxes (part q first_order) (get_elem? (map some slots) q) (part q first_order ∷ [], refl) few
                (at_home slots q (part q first_order) (omega (arith, many)) (boxes q)))));
          },
          ([], refl),
        );
        some_word = omega arith;
        word = one;
        count = omega arith;
        few = omega arith;
        each = at_only (KnowsBoard fits g first_order None 1) v record {
          board = at_only (λ k. k ≡ g) g refl;
          saw = saw;
          told = saw_none fits g first_order None 1;
          owns = λ k o at. let r = owns_at M 0 g.boxes k o at in none_own o.number (omega (arith, r.0)) ∙ sym r.1;
          parts = λ q short. ap (λ (h : Hand (List (Event M))). h.parts) (bares_at g.boxes g.boxes q short) ∙ sym (length-owns M 0 g.boxes);
          idle = λ e. refl;
        };
        once = λ n. omega (arith, owns_once M 0 g.boxes n);
        whole = omega (arith, length-owns M 0 g.boxes);
        maker = λ a e. cc;
      }

  -- what is left after one pass was dealt
  pub less_next : (first count : ℕ)
      → without_first_pass {T = List (Event M)} (first_view g first (suc count)) ≡ first_view g (suc first) count
  less_next first count =
      let budget : suc count * 2 ^ 56 - 2 ^ 56 ≡ count * 2 ^ 56 = omega arith in
      λ i. record (first_view g (suc first) count) { hands = fewer_bares g.boxes count i; budget = budget i }

  -- the first seat gives its first pass away
  pub deals_one : (first count id : ℕ) (v : SeatView M W) → v ≡ first_view g first (suc count)
      → table.Splits (Rule fits g) id v (without_first_pass v) (first_pass_alone v)
  deals_one first count id v is =
      subst (λ z. table.Splits (Rule fits g) id z (without_first_pass z) (first_pass_alone z)) (sym is) (λ s r is_at.
      let whole : SeatView M W = first_view g first (suc count) in
      let a : SeatView M W = without_first_pass whole in
      let b : SeatView M W = first_pass_alone whole in
      let k = r.each id whole is_at in
      let hand_a : (q : ℕ) → q < g.boxes → hand_at q a ≡ fresh_hand count =
      λ q short. ap (λ l. get_or l q (fresh_hand 0)) (fewer_bares g.boxes count)
      ∙ bares_at g.boxes count q short in
      let hand_b : (q : ℕ) → q < g.boxes → hand_at q b ≡ fresh_hand 1 =
      λ q short. ap (λ l. get_or l q (fresh_hand 0)) (one_bares g.boxes (suc count))
      ∙ bares_at g.boxes 1 q short in
      splits fits g s r id whole is_at a b
      (λ q short.
      subst (λ h. Divides h (hand_at q a) (hand_at q b)) (sym (bares_at g.boxes (suc count) q short))
      (subst (λ h. Divides (fresh_hand (suc count)) h (hand_at q b)) (sym (hand_a q short))
      (subst (λ h. Divides (fresh_hand (suc count)) (fresh_hand count) h) (sym (hand_b q short)) (divides_new [] count))))
      record {
        board = k.board;
        saw = k.saw;
        told = k.told;
        owns = λ j o at. k.owns (suc j) o at;
        parts = λ q short. ap (λ (h : Hand (List (Event M))). h.parts) (hand_a q short) ∙ sym (length-owns M (suc first) count);
        idle = λ e. refl;
      }
      record {
        board = k.board;
        saw = k.saw;
        told = k.told;
        owns = at_only (λ (o : Own M). own o.number r.order ≡ o.events) record { number = first; events = []; made = false }
            (k.owns 0 record { number = first; events = []; made = false } refl);
        parts = λ q short. ap (λ (h : Hand (List (Event M))). h.parts) (hand_b q short);
        idle = λ e. refl;
      }
      (λ n. omega arith) (omega arith) (λ n. omega arith) refl (omega arith))

  -- the pass that was dealt
  pub dealt_pass : (id : TableId) (number count calls : ℕ) (m : Seat M W) → m ≡ (first_pass_alone (first_view g number (suc count)), [])
      → IsBoardTable id g.boxes → number < g.boxes → calls ≤ 2 ^ 56
      → IsBoxPass fits id number calls false g.world.value g.boxes m
  dealt_pass id number count calls m is sized short enough =
      subst (λ z. IsBoxPass fits id number calls false g.world.value g.boxes z) (sym is) record {
        base = g;
        is_base = refl;
        world = refl;
        mailboxes = refl;
        sized = sized;
        near = short;
        lanes = ap (λ l. record { number = number; events = l; made = false } ∷ []) (sym (none_own number short));
        outside = refl;
        told = refl;
        owes = refl;
        budget = enough;
        hands =
            λ q there.
            subst (λ h. IsIdleHand calls h)
            (sym (ap (λ l. get_or l q (fresh_hand 0)) (one_bares g.boxes (suc count)) ∙ bares_at g.boxes 1 q there)) record {
              tickets = refl;
              inside = refl;
              parts = refl;
              drawn = omega arith;
            };
        seen = record { sound = sound; close = λ e. cc; known = λ e. cc };
      }

  pub deals_from : (first left id : ℕ) (v : SeatView M W) → v ≡ first_view g first left → 0 < left
      → table.Splits (Rule fits g) id v (without_first_pass v) (first_pass_alone v)
  deals_from first zero id v is some_of = absurd (omega arith)
  deals_from first (suc count) id v is some_of = deals_one first count id v is

  pub dealt_from : (id : TableId) (number left calls : ℕ) (m own_me : Seat M W) → m ≡ (first_view g number left, [])
      → own_me ≡ (first_pass_alone m.0, []) → 0 < left → IsBoardTable id g.boxes → number < g.boxes → calls ≤ 2 ^ 56
      → IsBoxPass fits id number calls false g.world.value g.boxes own_me
  dealt_from id number zero calls m own_me is own_is some_of sized short enough = absurd (omega arith)
  dealt_from id number (suc count) calls m own_me is own_is some_of sized short enough =
      dealt_pass id number count calls own_me (own_is ∙ ap (λ (z : Seat M W). (first_pass_alone z.0, [])) is) sized short enough

  -- one more pass dealt
  pub dealt_next : (id own_id : TableId) (calls n left : ℕ) (w v : W) (boxes : ℕ) (m m' own_me : Seat M W)
      (items items' : List (Sight M W)) → n + left ≡ boxes → n < boxes → own_id ≡ id → v ≡ w → m ≡ (first_view g n left, [])
      → m' ≡ (without_first_pass m.0, m.1)
      → own_me ≡ (first_pass_alone m.0, []) → items ≡ fresh_sights id (calls + 1) (opened w boxes g.to g.first) 0 n
      → items' ≡ items ++ box_sight own_id n calls false v boxes own_me.0.seen ∷ [] → g.boxes ≡ boxes
      → (k : ℕ) × (n + 1 + k ≡ boxes) × (m' ≡ (first_view g (n + 1) k, []))
      × (items' ≡ fresh_sights id (calls + 1) (opened w boxes g.to g.first) 0 (n + 1))
  dealt_next id own_id calls n zero w v boxes m m' own_me items items' sum lt same same_w is is' own_is are now many = absurd (omega arith)
  dealt_next id own_id calls n (suc count) w v boxes m m' own_me items items' sum lt same same_w is is' own_is are now many =
      let next : suc n ≡ n + 1 = omega arith in
      let back : n ≡ 0 + n = omega arith in
      let one : calls ≡ calls + 1 - 1 = omega arith in
      let seen : own_me.0.seen ≡ first_seen g = ap (λ (z : Seat M W). z.0.seen) own_is ∙ ap (λ (z : Seat M W). z.0.seen) is in
      let shown : box_sight own_id n calls false v boxes own_me.0.seen ≡ fresh_sight id (calls + 1) (opened w boxes g.to g.first) (0 + n) =
      (λ i. box_sight (same i) n calls false (same_w i) boxes (seen i)) ∙ (λ i. record {
        board = id;
        number = back i;
        calls = one i;
        made = false;
        knows = false;
        seen = record { world = w; boxes = boxes; order = Posted g.to (many i) g.first 0 ∷ []; aborted = None };
      }) in (
        count,
        omega arith,
        is'
            ∙ ((λ i. (without_first_pass (is i).0, (is i).1))
            ∙ ((λ i. (less_next n count i, [])) ∙ (λ i. (first_view g (next i) count, [])))),
        now
            ∙ ((λ i. are i ++ shown i ∷ [])
            ∙ (sym (sights_push id (calls + 1) (opened w boxes g.to g.first) 0 n)
            ∙ ap (fresh_sights id (calls + 1) (opened w boxes g.to g.first) 0) next)),
      )
