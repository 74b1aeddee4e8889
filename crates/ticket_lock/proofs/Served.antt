-- From what a step tells to what a call of a lock promises.
use Rattle.std.proofs.Common.{◌≡◌, ◌≢◌, ℕ, ◌+◌, ◌-◌, ◌<◌, ◌≤◌, List, [], ◌∷◌, ◌++◌, map, refl, sym, ap, ◌∙◌, subst, arith, eqb, false}
use Rattle.std.proofs.Common.{eq-eqb, ne_eqb}
use mathlib.Core.Option.{some}
use mathlib.Core.Logic.{dite}
use native.Mathlib.Decide.{ℕ_discrete}
use lib.ListN.{get_elem?}
use Rattle.atomic_table.specs.Seated.{TableId}
use Rattle.ticket_lock.specs.declared.view.View.{View}
use Rattle.ticket_lock.specs.Count.{times, without}
use Rattle.atomic_table.specs.Table.{Me}
use Rattle.std.specs.Prelude.{Option, None}
use Rattle.std.proofs.lemmas.List.{append-nil}
use Rattle.ticket_lock.specs.History.{StartsWith, longer}
use Rattle.ticket_lock.specs.Turns.{enters}
use Rattle.ticket_lock.specs.Calls.{Enters, Came}
use Rattle.ticket_lock.specs.Lone.{hand_of, TellsHistory, TookIn, merged, new_view}
use Rattle.ticket_lock.specs.Lanes.{Standing, Held, Told, standing}
use Rattle.ticket_lock.specs.Promises.{Drew, Served, EnteredLock, LearnedNote}

-- the last of a list is the first of its kind
without-snoc : (n : ℕ) (xs : List ℕ) → times n xs ≡ 0 → without n (xs ++ n ∷ []) ≡ xs
without-snoc n [] none = rw (eq-eqb n n refl) refl
without-snoc n (x ∷ xs) none = dite (ℕ_discrete x n)
    (λ (e : x ≡ n). let one = rw (eq-eqb x n e) at none in absurd (omega arith))
    (λ (ne : x ≢ n). let s : eqb x n ≡ false = ne_eqb x n ne in let rest = rw s at none in
    rw s (ap (λ r. x ∷ r) (without-snoc n xs (omega arith))))

module _ {T Part : Type 0} (before : T → T → Type 0) (part : ℕ → T → Part) where
  pub served_is : (id id' : TableId) (number left ticket : ℕ) (v w : View T) (x : T) → id' ≡ id → ((o : T) × (v.own ≡ (number, o) ∷ []))
      → Enters ticket x v.hand w.hand → TellsHistory before part 0 (enters x) v w
      → Served before part ticket record { value = x; number = ticket } (standing id number left v) (standing id' number left w)
  served_is id id' number left ticket v w x same one e t = (
    record {
      number = refl;
      turn = e.2;
      later = e.3;
      found = e.4;
      own = λ y is. (let o = one.0 in let there : get_elem? v.own 0 ≡ some (number, o) = ap (λ l. get_elem? l 0) one.1 in
          let l : List T = o ∷ [] in let m : List T = y ∷ [] in
          let both : l ≡ m = sym (ap (λ (q : List (ℕ × T)). map (λ p. p.1) q) one.1) ∙ is in
          let f : List T → T = only o in t.3 0 number o there ∙ ap (λ q. part number (f q)) both);
      rises = t.2;
      outside = e.1;
    },
    (λ i. record {
      lock = same i;
      number = number;
      left = left;
      seen = w.hand.seen;
      tickets = (e.0 i).tickets;
      inside = (e.0 i).inside;
      drawn = (e.0 i).drawn;
      own = map (λ p. p.1) (t.1 i);
    }),
  )
    where
      only : T → List T → T
      only d [] = d
      only d (z ∷ zs) = z

module _ {T : Type 0} where
  module _ {Part : Type 0} (before : T → T → Type 0) (part : ℕ → T → Part) where
    entered_from : (ticket : ℕ) (guard : Held T) (a c : Standing T) → 0 < a.left
        → ((k : ℕ) → ticket ≤ k → (times k a.drawn ≡ 0) × (times k a.tickets ≡ 0))
        → Served before part ticket guard
        (record a { left = a.left - 1; tickets = a.tickets ++ ticket ∷ []; drawn = a.drawn ++ ticket ∷ [] }) c
        → EnteredLock before part guard a c
    entered_from ticket guard a c had fresh s =
        let n : ticket ≡ guard.number = sym s.0.number in
        let back : without ticket (a.tickets ++ ticket ∷ []) ≡ a.tickets = without-snoc ticket a.tickets (fresh ticket (omega arith)).1 in
        let lane : c ≡ record a { left = a.left - 1; drawn = a.drawn ++ guard.number ∷ []; seen = c.seen; inside = guard.number ∷ [] } =
        s.1 ∙ (λ i. record a { left = a.left - 1; tickets = back i; drawn = a.drawn ++ n i ∷ []; seen = c.seen; inside = n i ∷ [] }) in
        record {
          had = had;
          fresh = subst (λ m. (k : ℕ) → m ≤ k → (times k a.drawn ≡ 0) × (times k a.tickets ≡ 0)) n fresh;
          stands = record {
            number = refl;
            turn = s.0.turn ∙ ap (λ m. m + 1) n;
            later = s.0.later;
            found = s.0.found;
            own = s.0.own;
            rises = s.0.rises;
            outside = s.0.outside;
          };
          lane = lane;
        }

    pub entered_is : (ticket : ℕ) (guard : Held T) (a b c : Standing T) → Drew ticket a b → Served before part ticket guard b c
        → EnteredLock before part guard a c
    entered_is ticket guard a b c d s =
        entered_from ticket guard a c d.had d.fresh (subst (λ z. Served before part ticket guard z c) d.lane s)

    pub served_to : (x : T) (n ticket : ℕ) (a a' b : Standing T) → n ≡ ticket → a ≡ a'
        → Served before part n record { value = x; number = n } a b → Served before part ticket record { value = x; number = n } a' b
    served_to x n ticket a a' b e d s =
        subst (λ z. Served before part ticket record { value = x; number = n } z b) d
        (subst (λ (k : ℕ). Served before part k record { value = x; number = n } a b) e s)

module _ {T Part : Type 0} (before : T → T → Type 0) (part : ℕ → T → Part) where
  -- a lane that drew and entered
  pub came_is : (id id' : TableId) (number left ticket : ℕ) (a : Standing T) (v w : Me (Option T) (View T)) (x : T)
      → standing id number left v.0 ≡ a → id' ≡ id → (left ≡ 0 → ⊥) → ((o : T) × (v.0.own ≡ (number, o) ∷ []))
      → Came (hand_of 0) (TellsHistory before part 0) 0 v ticket x None w
      → EnteredLock before part record { value = x; number = ticket } a (standing id' number (left - 1) w.0)
  came_is id id' number left ticket a v w x is same some_of one came =
      let d : Me (Option T) (View T) = came.0 in
      let drew = came.1 in
      let e = drew.1.0 in
      let drawn : Drew ticket (standing id number left v.0) (standing id number (left - 1) d.0) = record {
        had = omega (arith, some_of);
        fresh = λ k le. let f = drew.1.2 k le in (f.0, omega (arith, f.1));
        served = drew.1.1;
        lane = λ i. record {
          lock = id;
          number = number;
          left = left - 1;
          seen = (e i).seen;
          tickets = (e i).tickets;
          inside = (e i).inside;
          drawn = (e i).drawn;
          own = map (λ p. p.1) (drew.2.1 i);
        };
      } in
      let served = served_is before part id id' number (left - 1) ticket d.0 w.0 x same (one.0, drew.2.1 ∙ one.1) came.2.1 came.2.2 in
      subst (λ z. EnteredLock before part record { value = x; number = ticket } z (standing id' number (left - 1) w.0)) is
      (entered_is before part ticket record { value = x; number = ticket } (standing id number left v.0)
      (standing id number (left - 1) d.0) (standing id' number (left - 1) w.0) drawn served)

pub alone : {T : Type 0} (x y : T) → (let l : List T = x ∷ [] in let m : List T = y ∷ [] in l ≡ m) → x ≡ y
alone x y e = cc

module _ {T Part : Type 0} (before : T → T → Type 0) (part : ℕ → T → Part) where
  learned_of : (id : TableId) (number left : ℕ) (v m : Me (Option T) (View T)) (x : T) (seen : List T) (note : Told T) → note.seen ≡ seen
      → v.0.own ≡ (number, x) ∷ [] → TookIn before part (merged v.0 (new_view seen []), v.1) m
      → LearnedNote before part note (standing id number left v.0) (standing id number left m.0)
  learned_of id number left v m x seen note is one took =
      let h = v.0.hand in
      let e = ap (λ z. z.0) took.0 in
      let back = sym is in
      let own : v.0.own ++ [] ≡ (number, x) ∷ [] = append-nil v.0.own ∙ one in
      record {
        lane = ap (standing id number left) e ∙ (λ i. record {
          lock = id;
          number = number;
          left = left;
          seen = longer h.seen (back i);
          tickets = append-nil h.tickets i;
          inside = append-nil h.inside i;
          drawn = append-nil h.drawn i;
          own = map (λ p. p.1) (append-nil v.0.own i);
        });
        mine = took.1;
        theirs = subst (λ l. StartsWith m.0.hand.seen l) (sym is) took.2;
        rises = took.3;
        own = λ y has.
            let there : get_elem? (v.0.own ++ []) 0 ≡ some (number, x) = ap (λ l. get_elem? l 0) own in
            let last = took.4 0 number x there in
            let same : x ≡ y = alone x y (sym (ap (λ (q : List (ℕ × T)). map (λ p. p.1) q) one) ∙ has) in
            (last.0, last.1 ∙ ap (part number) same, last.2);
      }

  -- a lane that was told of a history and took it in
  pub learned_is : (id id' : TableId) (number left : ℕ) (a : Standing T) (note : Told T) (v w m n : Me (Option T) (View T))
      → standing id number left v.0 ≡ a → id' ≡ id → ((x : T) × (v.0.own ≡ (number, x) ∷ []))
      → w ≡ (new_view note.seen [], []) → m ≡ (merged v.0 w.0, v.1) → TookIn before part m n
      → LearnedNote before part note a (standing id' number left n.0)
  learned_is id id' number left a note v w m n is same one blank joined took =
      let view : w.0 ≡ new_view note.seen [] = ap (λ z. z.0) blank in
      let whole : m ≡ (merged v.0 (new_view note.seen []), v.1) = joined ∙ (λ i. (merged v.0 (view i), v.1)) in
      let r = learned_of id number left v n one.0 note.seen note refl one.1 (subst (λ z. TookIn before part z n) whole took) in
      subst (λ z. LearnedNote before part note z (standing id' number left n.0)) is
      (subst (λ z. LearnedNote before part note (standing id number left v.0) (standing z number left n.0)) (sym same) r)
