-- What the seat that closes a lock has gathered of the lanes.
use Rattle.std.proofs.Common.{◌≡◌, ◌⊎◌, inl, inr, ℕ, suc, List, [], ◌∷◌, ◌++◌, length, map, refl, sym, ap, ◌∙◌, subst, arith, length-append}
use Rattle.std.proofs.Common.{lt_of_not-le, Some, All}
use mathlib.Core.Option.{some}
use native.Mathlib.Decide.{dec_le}
use lib.ListN.{get_elem?}
use Rattle.std.specs.Iterator.{Yields, HoldsAlong}
use Rattle.std.specs.Prelude.{Option}
use Rattle.atomic_table.specs.Table.{Me}
use Rattle.atomic_table.specs.Seated.{TableId}
use Rattle.ticket_lock.specs.declared.view.View.{View}
use Rattle.ticket_lock.specs.Count.{times, total}
use Rattle.ticket_lock.specs.History.{StartsWith, longer, IsRising}
use Rattle.ticket_lock.specs.Lone.{taken_in, merged, TookIn, Rests, KeepsParts}
use Rattle.ticket_lock.specs.Lanes.{Standing, standing, IsLane}
use Rattle.ticket_lock.specs.Promises.{IsIdle, ClosesLock, KeepsOwn, ComesLast}
use Rattle.ticket_lock.specs.Proved.Facts.{at_snoc, at_last, StartsWith-trans}
use Rattle.ticket_lock.proofs.HistoryFacts.{total-snoc, times-append, at_longer, rises_last}
use Rattle.ticket_lock.proofs.LoneSteps.{longer_first, longer_second}
use Rattle.ticket_lock.proofs.Served.{alone}

module _ {S A : Type 0} (steps : S → Option A → S → Type 0) where
  -- one more item
  pub Yields-snoc : (s : S) (xs : List A) (t : S) (x : A) (u : S) → Yields steps s xs t → steps t (Some x) u
      → Yields steps s (xs ++ x ∷ []) u
  Yields-snoc s [] t x u y p = (u, subst (λ q. steps q (Some x) u) (sym y) p, refl)
  Yields-snoc s (z ∷ zs) t x u y p = (y.0, y.1, Yields-snoc y.0 zs t x u y.2 p)

pub All-last : {A : Type 0} (P : A → Type 0) (xs : List A) (x : A) → All P (xs ++ x ∷ []) → P x
All-last P [] x a = a 0 x (omega arith)
All-last P (y ∷ ys) x a = All-last P ys x (λ k d h. a (suc k) d (omega arith))

module _ {T : Type 0} where
  -- the view has the lanes of the list, all that they drew, and the longest of their histories
  pub record Gathered (xs : List (Standing T)) (v : View T) : Type 0 where
    pub taken : v.told ≡ []
    pub waits : v.hand.tickets ≡ []
    pub outside : v.hand.inside ≡ []
    pub lanes : length v.own ≡ length xs
    pub count : length v.hand.drawn ≡ total (λ y. length y.drawn) xs
    pub drawn : (n : ℕ) → times n v.hand.drawn ≡ total (λ y. times n y.drawn) xs
    pub seen : (j : ℕ) (y : Standing T) → get_elem? xs j ≡ some y → StartsWith v.hand.seen y.seen
    pub own : (j : ℕ) (y : Standing T) (z : T) → get_elem? xs j ≡ some y → y.own ≡ z ∷ []
        → (k : ℕ) × (get_elem? v.own k ≡ some (y.number, z))
    pub top : (v.hand.seen ≡ []) ⊎ ((j : ℕ) × (y : Standing T) × (get_elem? xs j ≡ some y) × (y.seen ≡ v.hand.seen))

  pub gathers_one : (xs : List (Standing T)) (v n : View T) (y : Standing T) (id : TableId) (number left : ℕ) (me : Me (Option T) (View T))
      → Gathered xs v → IsLane id number left me → standing id number left me.0 ≡ y
      → y.tickets ≡ [] → y.inside ≡ [] → n ≡ taken_in (merged v me.0) → StartsWith n.hand.seen v.hand.seen
      → StartsWith n.hand.seen me.0.hand.seen → Gathered (xs ++ y ∷ []) n
  gathers_one xs v n y id number left me g lane is no_ticket no_guard now mine theirs =
      let w : View T = me.0 in
      let tickets : w.hand.tickets ≡ [] = ap (λ (z : Standing T). z.tickets) is ∙ no_ticket in
      let inside : w.hand.inside ≡ [] = ap (λ (z : Standing T). z.inside) is ∙ no_guard in
      let w_seen : w.hand.seen ≡ y.seen = ap (λ (z : Standing T). z.seen) is in
      let w_drawn : w.hand.drawn ≡ y.drawn = ap (λ (z : Standing T). z.drawn) is in
      let n_drawn : n.hand.drawn ≡ v.hand.drawn ++ w.hand.drawn = ap (λ (z : View T). z.hand.drawn) now in
      let n_seen : n.hand.seen ≡ longer v.hand.seen w.hand.seen = ap (λ (z : View T). z.hand.seen) now in
      let one : length w.own ≡ 1 = ap length lane.one.1 in
      record {
        taken = ap (λ (z : View T). z.told) now;
        waits = ap (λ (z : View T). z.hand.tickets) now ∙ (λ i. g.waits i ++ tickets i);
        outside = ap (λ (z : View T). z.hand.inside) now ∙ (λ i. g.outside i ++ inside i);
        lanes = omega (arith, ap (λ (z : View T). length z.own) now, length-append v.own w.own, length-append xs (y ∷ []), g.lanes);
        count =
            omega (
              arith,
              ap length n_drawn,
              length-append v.hand.drawn w.hand.drawn,
              ap length w_drawn,
              total-snoc (λ (z : Standing T). length z.drawn) xs y,
              g.count,
            );
        drawn =
            λ k.
            omega (
              arith,
              ap (times k) n_drawn,
              times-append k v.hand.drawn w.hand.drawn,
              ap (times k) w_drawn,
              total-snoc (λ (z : Standing T). times k z.drawn) xs y,
              g.drawn k,
            );
        seen = λ j z e. elim (at_snoc xs y z j e) [
          | inl t ↦ subst (λ (q : Standing T). StartsWith n.hand.seen q.seen) t.1 (subst (λ l. StartsWith n.hand.seen l) w_seen theirs)
          | inr t ↦ StartsWith-trans n.hand.seen v.hand.seen z.seen mine (g.seen j z t)
        ];
        own = λ j x z e has. elim (at_snoc xs y x j e) [
          | inl t ↦ (let o = lane.one in
              let number_is : number ≡ x.number = ap (λ (q : Standing T). q.number) (is ∙ t.1) in
              let own_is : o.0 ∷ [] ≡ z ∷ [] = sym (ap (λ (q : List (ℕ × T)). map (λ p. p.1) q) o.1)
              ∙ (ap (λ (q : Standing T). q.own) (is ∙ t.1) ∙ has) in
              let value : o.0 ≡ z = alone o.0 z own_is in (
                length v.own,
                subst (λ l. get_elem? l (length v.own) ≡ some (x.number, z))
                    (sym (ap (λ (q : View T). q.own) now ∙ ap (λ l. v.own ++ l) o.1))
                    (subst (λ p. get_elem? (v.own ++ (number, o.0) ∷ []) (length v.own) ≡ some p) (λ i. (number_is i, value i))
                    (at_last v.own (number, o.0))),
              ))
          | inr t ↦
              (let old = g.own j x z t has in (
                old.0,
                subst (λ l. get_elem? l old.0 ≡ some (x.number, z)) (sym (ap (λ (q : View T). q.own) now))
                    (at_longer v.own w.own old.0 (x.number, z) old.1),
              ))
        ];
        top = elim (dec_le (length w.hand.seen) (length v.hand.seen)) [
          | yes d ↦ (let same : n.hand.seen ≡ v.hand.seen = n_seen ∙ longer_first v.hand.seen w.hand.seen d in elim g.top [
            | inl none ↦ inl (same ∙ none)
            | inr t ↦ inr (t.0, t.1, at_longer xs (y ∷ []) t.0 t.1 t.2, t.3 ∙ sym same)
          ])
          | no d ↦
              (let lt = lt_of_not-le d in let same : n.hand.seen ≡ w.hand.seen = n_seen ∙ longer_second v.hand.seen w.hand.seen lt in
              inr (length xs, y, at_last xs y, sym w_seen ∙ sym same))
        ];
      }

  -- the value has each lane's part, if it has those of the view's lanes
  pub keeps_own : {Part : Type 0} (part : ℕ → T → Part) (xs : List (Standing T)) (v : View T) (x : T) → Gathered xs v → KeepsParts part v x
      → KeepsOwn part xs x
  keeps_own part xs v x g keeps j y z e has = let o = g.own j y z e has in keeps o.0 y.number z o.1

  -- what each lane has seen last comes before the last of the longest history
  pub comes_last : (before : T → T → Type 0) (opening : T) (xs : List (Standing T)) (v : View T) (value : T) → Gathered xs v
      → IsRising before v.hand.seen → Rests opening v value → ComesLast before xs value
  comes_last before opening xs v value g rises r j y x e ends = rises_last before v.hand.seen y.seen x value rises (g.seen j y e) ends r.0

  -- the seat after it took in a lane
  pub gathers_step : {Part : Type 0} (before : T → T → Type 0) (part : ℕ → T → Part) (xs : List (Standing T)) (y : Standing T)
      (id own_id : TableId) (number left : ℕ) (m n o own : Me (Option T) (View T)) → Gathered xs m.0 → m.1 ≡ []
      → IsLane own_id number left own
      → standing own_id number left own.0 ≡ y → IsIdle id y → n ≡ (merged m.0 own.0, m.1) → TookIn before part n o
      → (o.1 ≡ []) × Gathered (xs ++ y ∷ []) o.0
  gathers_step before part xs y id own_id number left m n o own g none lane is idle joined took =
      let n_view : n.0 ≡ merged m.0 own.0 = ap (λ z. z.0) joined in
      let n_none : n.1 ≡ [] = ap (λ z. z.1) joined ∙ none in (
        ap (λ z. z.1) took.0 ∙ n_none,
        gathers_one xs m.0 o.0 y own_id number left own g lane is idle.1 idle.2 (ap (λ z. z.0) took.0 ∙ ap taken_in n_view)
            (subst (λ (z : View T). StartsWith o.0.hand.seen z.hand.seen) n_view took.1)
            (subst (λ (z : View T). StartsWith o.0.hand.seen z.told) n_view took.2),
      )

  -- a lane that comes is one of this lock, with no ticket and no guard
  pub next_idle : {S : Type 0} (steps : S → Option (Standing T) → S → Type 0) (from s t u : S) (xs : List (Standing T)) (x : Standing T)
      (id : TableId) → s ≡ from → Yields steps s xs t → steps t (Some x) u → HoldsAlong steps from (All (IsIdle id)) → IsIdle id x
  next_idle steps from s t u xs x id same so_far more along =
      All-last (IsIdle id) xs x
      (along (xs ++ x ∷ []) u (Yields-snoc steps from xs t x u (subst (λ z. Yields steps z xs t) same so_far) more))

  pub closes_is : (xs : List (Standing T)) (v : View T) (opening opening' x : T) → Gathered xs v → opening ≡ opening' → Rests opening v x
      → ClosesLock opening' xs x
  closes_is xs v opening opening' x g same r = elim g.top [
    | inl none ↦ absurd (let z : length v.hand.seen ≡ 0 = ap length none in omega (arith, r.2))
    | inr t ↦ record {
      place = t.0;
      longest = t.1;
      there = t.2;
      last = subst (λ l. Rattle.ticket_lock.specs.History.EndsIn l x) (sym t.3) r.0;
      begun = subst (λ l. StartsWith l (opening' ∷ [])) (sym t.3) (subst (λ o. StartsWith v.hand.seen (o ∷ [])) same r.1);
      others = λ j y e. subst (λ l. StartsWith l y.seen) (sym t.3) (g.seen j y e);
      served = omega (arith, ap length t.3, r.2, g.count);
      once = λ n lt. sym (g.drawn n) ∙ r.3 n (omega (arith, g.count));
      no_more = λ n le. sym (g.drawn n) ∙ r.4 n (omega (arith, g.count));
    }
  ]
