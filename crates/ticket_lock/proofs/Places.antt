-- Each step of a lock at a place may be taken, under every rule that allows a lock there.
use Rattle.std.proofs.Common.{◌≡◌, ◌≢◌, inl, inr, ℕ, ◌+◌, ◌*◌, ◌^◌, ◌%◌, ◌<◌, List, [], ◌∷◌, ◌++◌, map, length, set, get_or, refl, sym, ap}
use Rattle.std.proofs.Common.{◌==◌, eq-eqb, ne_eqb, ◌∙◌, subst, arith, Option, Some, length-set, get_or-set_other, get_or-set_same}
use mathlib.Core.Option as maybe
use mathlib.Core.Option.{some, none}
use mathlib.Core.Logic.{dite}
use prog.Atomic.{either}
use native.Mathlib.Decide.{ℕ_discrete}
use lib.ListN.{get_elem?}
use Rattle.atomic_table.specs.Table.{State, Me, stepped, carried_after, keeps, takes, gives, Allows, rest}
use Rattle.ticket_lock.specs.declared.hand.Hand.{Hand}
use Rattle.ticket_lock.specs.Count.{times}
use Rattle.ticket_lock.specs.History.{StartsWith, EndsIn}
use Rattle.ticket_lock.specs.Core.{in_hand, TicketCore}
use Rattle.ticket_lock.specs.Turns.{StepKind, draws, waits, enters, passes, with_ticket, with_entry, with_leave, Kept, Opens}
use Rattle.ticket_lock.specs.Calls.{Drew, DrewIfNext, Loaded, Passed}
use Rattle.ticket_lock.specs.Proved.Facts.{total_at, set_again, set_here, set_else, at-map}
use Rattle.ticket_lock.proofs.HistoryFacts.{StartsWith-length, EndsIn-some}
use Rattle.ticket_lock.proofs.CoreSteps.{in_range, few_drawn, core_draws, outside, core_enters, core_passes, nobody_inside}

module _ {T : Type 0} where
  -- the lock's rule after one of its two words was written
  kept_words : (word slot i n a b : ℕ) (log : List T) (words : List ℕ) (homes : List (maybe.Option (Option T))) (hands : List (Hand T))
      → word + 1 < length words
      → get_or (set words i n) word 0 ≡ a → get_or (set words i n) (word + 1) 0 ≡ b → TicketCore a b log (get_elem? homes slot) hands
      → Kept word slot log (set words i n) homes hands
  kept_words word slot i n a b log words homes hands room is_a is_b c = record {
    room = omega (arith, length-set words i n);
    core =
        subst (λ x. TicketCore x (get_or (set words i n) (word + 1) 0) log (get_elem? homes slot) hands) (sym is_a)
        (subst (λ x. TicketCore a x log (get_elem? homes slot) hands) (sym is_b) c);
  }

module _ {T V : Type 0} (holds : State (Option T) V → Type 0) (see : V → Hand T) (asks : StepKind T → V → Type 0)
    (tells : StepKind T → V → V → Type 0) (word slot : ℕ) (opening : Opens holds see asks tells word slot) where
  pub draws_allowed : (slots id : ℕ) (m : Me (Option T) V) → length (see m.0).drawn < (see m.0).parts * 2 ^ 56 → asks draws m.0
      → Allows holds slots id m (word + 1) (λ n. (n + 1) % 2 ^ 64) (Drew see tells m)
  draws_allowed slots id m room asked s ok len is_at small =
      let o = opening s ok in
      let log : List T = o.0 in
      let kept = o.1 in
      let h : Hand T = see m.0 in
      let serving : ℕ = get_or s.words word 0 in
      let next : ℕ = get_or s.words (word + 1) 0 in
      let hands : List (Hand T) = map see s.views in
      let here : maybe.Option (maybe.Option (Option T)) = get_elem? s.homes slot in
      let is_h = at-map see s.views id m.0 is_at in
      let few = few_drawn serving next log here hands id h is_h kept.core in
      let fits = kept.core.each id h is_h in
      let n : ℕ = (next + 1) % 2 ^ 64 in
      let e : n ≡ next + 1 = omega arith in
      let w : Hand T = with_ticket next h in
      let c = core_draws serving next log here hands id h is_h kept.core room in
      let inside = kept.room in
      let kept' : Kept word slot log (set s.words (word + 1) n) s.homes (set hands id w) =
      kept_words word slot (word + 1) n serving (next + 1) log s.words s.homes (set hands id w) kept.room
      (get_or-set_other s.words (word + 1) word n 0 (λ k. omega arith)) (get_or-set_same s.words (word + 1) n 0 inside ∙ e) c in
      let r = o.2 id m.0 is_at draws (word + 1) n s.homes log w (inr refl) refl (λ k _. refl) (refl, (next, refl)) kept' asked in (
        r.0,
        keeps,
        tt,
        r.2,
        (
          refl,
          (
            r.1,
            (omega (arith, StartsWith-length log h.seen fits.begins, kept.core.served, kept.core.order)),
            (λ k le. (
              (let t = total_at (λ (x : Hand T). times k x.drawn) hands id h is_h in omega (arith, kept.core.undrawn k le)),
              (let t = total_at (in_hand k) hands id h is_h in omega (arith, kept.core.ahead k le)),
            )),
          ),
          r.3,
        ),
      )

  pub draws_if_next_allowed : (slots id : ℕ) (m : Me (Option T) V) (ticket expected next : ℕ) → ticket ≡ expected
      → next ≡ (expected + 1) % 2 ^ 64
      → length (see m.0).drawn < (see m.0).parts * 2 ^ 56 → asks draws m.0 → asks waits m.0
      → Allows holds slots id m (word + 1) (λ n. either (n == expected) next n) (DrewIfNext see tells ticket m)
  draws_if_next_allowed slots id m ticket expected next same is_next room ask_draws ask_waits s ok len is_at small =
      let found : ℕ = get_or s.words (word + 1) 0 in
      dite (ℕ_discrete found expected)
      (λ (e : found ≡ expected).
      let d = draws_allowed slots id m room ask_draws s ok len is_at small in
      let written : (found + 1) % 2 ^ 64 ≡ either (found == expected) next found =
      ap (λ n. (n + 1) % 2 ^ 64) e ∙ sym is_next ∙ sym (ap (λ b. either b next found) (eq-eqb _ _ e)) in (
        d.0,
        d.1,
        d.2,
        subst (λ n. holds (stepped s (word + 1) n id m.1 d.0 d.1)) written d.3,
        ((λ is. subst (λ n. Drew see tells m n (d.0, carried_after m.1 d.1)) is d.4), (λ ne. absurd (ne (e ∙ sym same)))),
      ))
      (λ (ne : found ≢ expected).
      let o = opening s ok in
      let log : List T = o.0 in
      let kept = o.1 in
      let h : Hand T = see m.0 in
      let serving : ℕ = get_or s.words word 0 in
      let hands : List (Hand T) = map see s.views in
      let here : maybe.Option (maybe.Option (Option T)) = get_elem? s.homes slot in
      let is_h = at-map see s.views id m.0 is_at in
      let in_row = kept.room in
      let same_a : get_or (set s.words (word + 1) found) word 0 ≡ serving =
      get_or-set_other s.words (word + 1) word found 0 (λ k. omega arith) in
      let same_b : get_or (set s.words (word + 1) found) (word + 1) 0 ≡ found = get_or-set_same s.words (word + 1) found 0 in_row in
      let kept' : Kept word slot log (set s.words (word + 1) found) s.homes (set hands id h) =
      kept_words word slot (word + 1) found serving found log s.words s.homes (set hands id h) kept.room same_a same_b
      (subst (λ l. TicketCore serving found log here l) (sym (set_again hands id h is_h)) kept.core) in
      let r = o.2 id m.0 is_at waits (word + 1) found s.homes log h (inr refl) refl (λ k _. refl) (refl, refl) kept' ask_waits in
      let written : found ≡ either (found == expected) next found = sym (ap (λ b. either b next found) (ne_eqb _ _ ne)) in (
        r.0,
        keeps,
        tt,
        subst (λ n. holds (stepped s (word + 1) n id m.1 r.0 keeps)) written r.2,
        ((λ e. absurd (ne (e ∙ same))), (λ _. (refl, r.1, r.3))),
      ))

  pub looks_allowed : (slots id : ℕ) (m : Me (Option T) V) (ticket : ℕ) → 0 < times ticket (see m.0).tickets → asks waits m.0
      → ((x : T) → asks (enters x) m.0)
      → Allows holds slots id m word (λ n. n) (Loaded see tells slot ticket m)
  looks_allowed slots id m ticket some_of ask_waits ask_enters s ok len is_at small =
      let o = opening s ok in
      let log : List T = o.0 in
      let kept = o.1 in
      let h : Hand T = see m.0 in
      let serving : ℕ = get_or s.words word 0 in
      let next : ℕ = get_or s.words (word + 1) 0 in
      let hands : List (Hand T) = map see s.views in
      let here : maybe.Option (maybe.Option (Option T)) = get_elem? s.homes slot in
      let is_h = at-map see s.views id m.0 is_at in
      let fits = kept.core.each id h is_h in
      let range = in_range serving next log here hands id h is_h kept.core ticket (omega arith) in
      let begins = StartsWith-length log h.seen fits.begins in
      let served = kept.core.served in
      let in_row = kept.room in
      let same_a : get_or (set s.words word serving) word 0 ≡ serving = get_or-set_same s.words word serving 0 (omega arith) in
      let same_b : get_or (set s.words word serving) (word + 1) 0 ≡ next =
      get_or-set_other s.words word (word + 1) serving 0 (λ k. omega arith) in
      dite (ℕ_discrete serving ticket)
      (λ (e : serving ≡ ticket).
      let here_now : 0 < times serving h.tickets = subst (λ k. 0 < times k h.tickets) (sym e) some_of in
      let home = kept.core.home (nobody_inside serving next log here hands id h is_h kept.core here_now) in
      let x : T = home.0 in
      let homes : List (maybe.Option (Option T)) = set s.homes slot none in
      let w : Hand T = with_entry serving log h in
      let c = core_enters serving next log here hands id h is_h kept.core (get_elem? homes slot) here_now in
      let kept' : Kept word slot log (set s.words word serving) homes (set hands id w) =
      kept_words word slot word serving serving next log s.words homes (set hands id w) kept.room same_a same_b c in
      let r =
      o.2 id m.0 is_at (enters x) word serving homes log w (inl refl) (length-set s.homes slot none)
      (λ k ne. set_else s.homes slot k none ne) (refl, home.1, (serving, refl)) kept' (ask_enters x) in
      let seen : (see r.0).seen ≡ log = ap (λ (z : Hand T). z.seen) r.1 in
      let E : List T → Type 0 = λ l. (see r.0 ≡ with_entry ticket l h) × (h.inside ≡ []) × (length l ≡ ticket + 1) × StartsWith l h.seen
      × EndsIn l x in (
        r.0,
        takes slot (Some x),
        home.2,
        r.2,
        (
          (λ _. (
            x,
            (
              refl,
              subst E (sym seen) (
                subst (λ k. see r.0 ≡ with_entry k log h) e r.1,
                outside serving next log here hands id h is_h kept.core here_now,
                omega arith,
                fits.begins,
                home.1,
              ),
              r.3,
            ),
          )),
          λ ne. absurd (ne e),
        ),
      ))
      (λ (ne : serving ≢ ticket).
      let kept' : Kept word slot log (set s.words word serving) s.homes (set hands id h) =
      kept_words word slot word serving serving next log s.words s.homes (set hands id h) kept.room same_a same_b
      (subst (λ l. TicketCore serving next log here l) (sym (set_again hands id h is_h)) kept.core) in
      let r = o.2 id m.0 is_at waits word serving s.homes log h (inl refl) refl (λ k _. refl) (refl, refl) kept' ask_waits in
      (r.0, keeps, tt, r.2, ((λ e. absurd (ne e)), (λ _. (refl, r.1, omega arith, r.3)))))

  passes_with : (slots id : ℕ) (v : V) (y : T) (tail : List (ℕ × Option T)) (t : ℕ) → slot < slots → (see v).inside ≡ t ∷ []
      → ((x : T) → EndsIn (see v).seen x → asks (passes x y) v)
      → Allows holds slots id (v, (slot, Some y) ∷ tail) word (λ n. (n + 1) % 2 ^ 64)
      (λ n. Passed see tells slot (v, (slot, Some y) ∷ tail))
  passes_with slots id v y tail t short is_inside asked s ok len is_at small =
      let o = opening s ok in
      let log : List T = o.0 in
      let kept = o.1 in
      let h : Hand T = see v in
      let serving : ℕ = get_or s.words word 0 in
      let next : ℕ = get_or s.words (word + 1) 0 in
      let hands : List (Hand T) = map see s.views in
      let here : maybe.Option (maybe.Option (Option T)) = get_elem? s.homes slot in
      let is_h = at-map see s.views id v is_at in
      let fits = kept.core.each id h is_h in
      let in_row = kept.room in
      let few = few_drawn serving next log here hands id h is_h kept.core in
      let order = kept.core.order in
      let n : ℕ = (serving + 1) % 2 ^ 64 in
      let e : n ≡ serving + 1 = omega arith in
      let homes : List (maybe.Option (Option T)) = set s.homes slot (some (Some y)) in
      let home_is : get_elem? homes slot ≡ some (some (Some y)) = set_here s.homes slot (some (Some y)) (omega arith) in
      elim fits.inside [
        | inl none_in ↦ (let no : [] ≡ t ∷ [] = sym none_in ∙ is_inside in cc)
        | inr both ↦ (
            let w : Hand T = with_leave y h in
            let last = EndsIn-some log (omega (arith, kept.core.served)) in
            let x : T = last.0 in
            let ends : EndsIn h.seen x = subst (λ l. EndsIn l x) (sym both.1) last.1 in
            let c = core_passes serving next log here hands id h is_h kept.core y both.0 both.1 in
            let kept' : Kept word slot (log ++ y ∷ []) (set s.words word n) homes (set hands id w) =
            kept_words word slot word n (serving + 1) next (log ++ y ∷ []) s.words homes (set hands id w) kept.room
            (get_or-set_same s.words word n 0 (omega arith) ∙ e) (get_or-set_other s.words word (word + 1) n 0 (λ k. omega arith))
            (subst (λ z. TicketCore (serving + 1) next (log ++ y ∷ []) z (set hands id w)) (sym home_is) c) in
            let r =
            o.2 id v is_at (passes x y) word n homes (log ++ y ∷ []) w (inl refl) (length-set s.homes slot (some (Some y)))
            (λ k ne. set_else s.homes slot k (some (Some y)) ne)
            (refl, last.1, both.1, refl) kept' (asked x ends) in
            (r.0, gives, tt, r.2, (x, y, refl, refl, ends, r.1, r.3)))
      ]

  pub passes_allowed : (slots id : ℕ) (m : Me (Option T) V) (y : T) (t : ℕ) → slot < slots → m.1 ≡ (slot, Some y) ∷ rest m.1
      → (see m.0).inside ≡ t ∷ [] → ((x : T) → EndsIn (see m.0).seen x → asks (passes x y) m.0)
      → Allows holds slots id m word (λ n. (n + 1) % 2 ^ 64) (λ n. Passed see tells slot m)
  passes_allowed slots id m y t short is is_inside asked =
      subst (λ c. Allows holds slots id (m.0, c) word (λ n. (n + 1) % 2 ^ 64) (λ n. Passed see tells slot (m.0, c))) (sym is)
      (passes_with slots id m.0 y (rest m.1) t short is_inside asked)
