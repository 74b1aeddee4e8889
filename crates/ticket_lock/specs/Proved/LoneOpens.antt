-- The rule of a lone lock allows a lock at the start of its table.
use Rattle.std.proofs.Common.{◌≡◌, ◌≢◌, ◌⊎◌, inl, inr, ℕ, zero, suc, ◌<◌, List, [], ◌∷◌, ◌++◌, map, length, set, refl, sym, ap, ◌∙◌, subst}
use Rattle.std.proofs.Common.{arith, Option}
use mathlib.Core.Option as maybe
use mathlib.Core.Option.{some, some-injective, some-ne-none}
use mathlib.Core.Logic.{dite}
use native.Mathlib.Decide.{ℕ_discrete}
use lib.ListN.{get_elem?}
use Rattle.atomic_table.specs.Table.{State}
use Rattle.ticket_lock.specs.declared.hand.Hand.{Hand}
use Rattle.ticket_lock.specs.declared.view.View.{View}
use Rattle.ticket_lock.specs.declared.view.Opening.{Opening}
use Rattle.ticket_lock.specs.Count.{times}
use Rattle.ticket_lock.specs.History.{StartsWith, EndsIn, IsRising}
use Rattle.ticket_lock.specs.Turns.{draws, waits, enters, passes, Kept, Follows, Opens}
use Rattle.ticket_lock.specs.Lone.{IsStart, hand_of, lane_numbers, Knows, Lone, MayBeLeft, TellsHistory}
use Rattle.ticket_lock.specs.Proved.Facts.{total_set, total_two, at_set, set_here, set_else, at_inside, map-set, times-one, StartsWith-more}
use Rattle.ticket_lock.specs.Proved.Facts.{EndsIn-same, EndsIn-more, rises_on}

module _ {T : Type 0} where
  -- a lane of the view is among its numbers
  pub number_at : (own : List (ℕ × T)) (k l : ℕ) (x : T) → get_elem? own k ≡ some (l, x) → 0 < times l (map (λ p. p.0) own)
  number_at [] k l x e = absurd (some-ne-none (l, x) (sym e))
  number_at (p ∷ ps) zero l x e =
      let same : p.0 ≡ l = ap (λ q. q.0) (some-injective p (l, x) e) in
      let one : times l (p.0 ∷ []) ≡ 1 = subst (λ n. times l (n ∷ []) ≡ 1) (sym same) (times-one l) in
      omega arith
  number_at (p ∷ ps) (suc k) l x e = omega (arith, number_at ps k l x e)

  pub same_number : (l m : ℕ) (y a : T) → (let own : List (ℕ × T) = (l, y) ∷ [] in let own' : List (ℕ × T) = (m, a) ∷ [] in own ≡ own')
      → l ≡ m
  same_number l m y a e = ap (λ q. first q) e
    where
      first : List (ℕ × T) → ℕ
      first [] = 0
      first (p ∷ ps) = p.0

  pub only_one : (l : ℕ) (y : T) (m k : ℕ) (a : T) → (let own : List (ℕ × T) = (l, y) ∷ [] in get_elem? own k ≡ some (m, a)) → y ≡ a
  only_one l y m zero a e = let p : (l, y) ≡ (m, a) = some-injective (l, y) (m, a) e in ap (λ i. i.1) p
  only_one l y m (suc k) a e = absurd (some-ne-none (m, a) (sym e))

module _ {T Part : Type 0} (before : T → T → Type 0) (part : ℕ → T → Part) where
  -- some view with a lane has seen the whole history or was told it
  abbrev IsKnown : List T → List (View T) → Type 0
  IsKnown log views = (j : ℕ) × (v : View T) × (get_elem? views j ≡ some v) × (0 < length v.own) × ((v.hand.seen ≡ log) ⊎ (v.told ≡ log))

  pub known_set : (log : List T) (views : List (View T)) (id : ℕ) (v w : View T) → get_elem? views id ≡ some v
      → length w.own ≡ length v.own → (v.hand.seen ≡ log → w.hand.seen ≡ log) → w.told ≡ v.told → IsKnown log views
      → IsKnown log (set views id w)
  known_set log views id v w is_at same seen told k = dite (ℕ_discrete k.0 id)
      (λ (e : k.0 ≡ id).
      let u_is : k.1 ≡ v = some-injective k.1 v (sym (k.2) ∙ (ap (get_elem? views) e ∙ is_at)) in
      let K : View T → Type 0 = λ u. (0 < length u.own) × ((u.hand.seen ≡ log) ⊎ (u.told ≡ log)) in
      let at_v = subst K u_is (k.3, k.4) in (
        id,
        w,
        set_here views id w (at_inside views id v is_at),
        omega (arith, at_v.0),
        elim at_v.1 [ inl s ↦ inl (seen s) | inr t ↦ inr (told ∙ t) ],
      ))
      (λ (ne : k.0 ≢ id). (k.0, k.1, set_else views id k.0 w ne ∙ k.2, k.3, k.4))

  module _ (opening : T) (lanes : ℕ) (s : State (Option T) (View T)) (r : Lone before part opening lanes s) (id : ℕ) (v : View T)
      (is_at : get_elem? s.views id ≡ some v) where
    -- the rule after one view was changed, which keeps the numbers of its lanes
    pub rebuilt : (log : List T) (words : List ℕ) (homes : List (maybe.Option (Option T))) (w : View T)
        → Kept 0 0 log words homes (set (map (hand_of 0) s.views) id w.hand)
        → StartsWith log (opening ∷ []) → IsRising before log → lane_numbers w ≡ lane_numbers v → length w.own ≡ length v.own
        → Knows before part log w
        → ((j : ℕ) (u : View T) → j ≢ id → get_elem? s.views j ≡ some u → Knows before part log u) → IsKnown log (set s.views id w)
        → Lone before part opening lanes record { words = words; homes = homes; views = set s.views id w }
    rebuilt log words homes w kept begun rising same_numbers same_length mine others known = record {
      log = log;
      kept = subst (λ l. Kept 0 0 log words homes l) (sym (map-set (hand_of 0) s.views id w)) kept;
      begun = begun;
      rising = rising;
      each_view =
          λ j u e. elim (at_set s.views id j w u e) [ inl t ↦ subst (λ z. Knows before part log z) t.1 mine | inr t ↦ others j u t.0 t.1 ];
      whole = omega (arith, total_set (λ (u : View T). length u.own) s.views id v w is_at, r.whole);
      once = λ l. let same : times l (lane_numbers w) ≡ times l (lane_numbers v) = ap (times l) same_numbers in
          omega (arith, total_set (λ (u : View T). times l (lane_numbers u)) s.views id v w is_at, r.once l);
      known = known;
    }

    -- a step that leaves the history as it is
    same_log : (words : List ℕ) (homes : List (maybe.Option (Option T))) (h : Hand T)
        → Kept 0 0 r.log words homes (set (map (hand_of 0) s.views) id h) → h.parts ≡ v.hand.parts → (v.hand.seen ≡ r.log → h.seen ≡ r.log)
        → Lone before part opening
        lanes record { words = words; homes = homes; views = set s.views id record { hand = h; told = v.told; own = v.own } }
    same_log words homes h kept parts seen =
        let w : View T = record { hand = h; told = v.told; own = v.own } in
        let mine = r.each_view id v is_at in
        rebuilt r.log words homes w kept r.begun r.rising refl refl record {
          shares = parts ∙ mine.shares;
          told = mine.told;
          owns = mine.owns;
        } (λ j u _ e. r.each_view j u e)
        (known_set r.log s.views id v w is_at refl seen refl r.known)

    -- a value left by the one lane of the view
    passed_on : ((x : T) → before x x) → ((x y z : T) → before x y → before y z → before x z)
        → (words : List ℕ) (homes : List (maybe.Option (Option T))) (h : Hand T) (x y : T) (l : ℕ) (z : T)
        → Kept 0 0 (r.log ++ y ∷ []) words homes (set (map (hand_of 0) s.views) id h) → h.parts ≡ v.hand.parts → h.seen ≡ r.log ++ y ∷ []
        → EndsIn r.log x → before x y → v.own ≡ (l, z) ∷ [] → ((k : ℕ) → k ≢ l → part k y ≡ part k x)
        → Lone before part opening
        lanes record { words = words; homes = homes; views = set s.views id record { hand = h; told = v.told; own = (l, y) ∷ [] } }
    passed_on same on words homes h x y l z kept parts seen ends step own apart =
        let w : View T = record { hand = h; told = v.told; own = (l, y) ∷ [] } in
        let mine = r.each_view id v is_at in
        let log : List T = r.log ++ y ∷ [] in
        let one : length v.own ≡ 1 = ap length own in
        let my_number : lane_numbers v ≡ l ∷ [] = ap (λ q. map (λ p. p.0) q) own in
        let only : (q : T) → EndsIn log q → y ≡ q = λ q e. EndsIn-same log y q (EndsIn-more r.log y) e in
        rebuilt log words homes w kept (StartsWith-more r.log (opening ∷ []) y r.begun)
        (rises_on before same on r.log x y ends step r.rising) (sym my_number) (sym one)
        record {
          shares = parts ∙ (mine.shares ∙ one);
          told = StartsWith-more r.log v.told y mine.told;
          owns = λ k m a q at_k e. let p = only_one l y m k a at_k in ap (part m) (sym (only q e) ∙ p);
        }
        (λ j u ne at_u. let known_u = r.each_view j u at_u in record {
          shares = known_u.shares;
          told = StartsWith-more r.log u.told y known_u.told;
          owns = λ k m a q at_k e.
              let other : m ≢ l = λ (same_lane : m ≡ l).
              (let two = total_two (λ (i : View T). times l (lane_numbers i)) s.views id j v u (λ (f : id ≡ j). ne (sym f)) is_at at_u in
              let here : times l (lane_numbers v) ≡ 1 = ap (times l) my_number ∙ times-one l in
              let there : 0 < times l (lane_numbers u) = subst (λ i. 0 < times i (lane_numbers u)) same_lane (number_at u.own k m a at_k) in
              omega (arith, r.once l)) in
              subst (λ i. part m i ≡ part m a) (only q e) (apart m other ∙ known_u.owns k m a x at_k ends);
        })
        (id, w, set_here s.views id w (at_inside s.views id v is_at), omega arith, inl seen)

  module _ (same : (x : T) → before x x) (on : (x y z : T) → before x y → before y z → before x z) (opening : T) (lanes : ℕ) where
    follows : (s : State (Option T) (View T)) (r : Lone before part opening lanes s) (id : ℕ) (v : View T) → get_elem? s.views id ≡ some v
        → Follows (Lone before part opening lanes) (hand_of 0) (MayBeLeft before part 0) (TellsHistory before part 0) 0 0 s r.log id v
    follows s r id v is_at draws i n homes log' h _ _ _ turn kept asked =
        let seen = ap (λ (z : Hand T). z.seen) turn.1.1 in (
          record { hand = h; told = v.told; own = v.own },
          refl,
          same_log opening lanes s r id v is_at (set s.words i n) homes h
              (subst (λ l. Kept 0 0 l (set s.words i n) homes (set (map (hand_of 0) s.views) id h)) turn.0 kept)
              (ap (λ (z : Hand T). z.parts) turn.1.1) (λ e. seen ∙ e),
          (refl, refl),
        )
    follows s r id v is_at waits i n homes log' h _ _ _ turn kept asked =
        let kept' = subst (λ l. Kept 0 0 l (set s.words i n) homes (set (map (hand_of 0) s.views) id h)) turn.0 kept in (
          v,
          sym turn.1,
          same_log opening lanes s r id v is_at (set s.words i n) homes v.hand
              (subst (λ z. Kept 0 0 r.log (set s.words i n) homes (set (map (hand_of 0) s.views) id z)) turn.1 kept') refl (λ e. e),
          refl,
        )
    follows s r id v is_at (enters x) i n homes log' h _ _ _ turn kept asked =
        let seen : h.seen ≡ r.log = ap (λ (z : Hand T). z.seen) turn.2.1 in (
          record { hand = h; told = v.told; own = v.own },
          refl,
          same_log opening lanes s r id v is_at (set s.words i n) homes h
              (subst (λ l. Kept 0 0 l (set s.words i n) homes (set (map (hand_of 0) s.views) id h)) turn.0 kept)
              (ap (λ (z : Hand T). z.parts) turn.2.1) (λ e. seen),
          (refl, refl, subst (λ l. IsRising before l) (sym seen) r.rising, λ k l z at_k. (r.each_view id v is_at).owns k l z x at_k turn.1),
        )
    follows s r id v is_at (passes x y) i n homes log' h _ _ _ turn kept asked =
        let seen : h.seen ≡ r.log ++ y ∷ [] = ap (λ (z : Hand T). z.seen) turn.3 ∙ ap (λ l. l ++ y ∷ []) turn.2 in
        let l : ℕ = asked.1.0 in
        let z : T = asked.1.1 in (
          record { hand = h; told = v.told; own = (l, y) ∷ [] },
          refl,
          passed_on opening lanes s r id v is_at same on (set s.words i n) homes h x y l z
              (subst (λ m. Kept 0 0 m (set s.words i n) homes (set (map (hand_of 0) s.views) id h)) turn.0 kept)
              (ap (λ (q : Hand T). q.parts) turn.3) seen turn.1 asked.0 asked.1.2 asked.1.3,
          (
            refl,
            λ m q e. let own : List (ℕ × T) = (l, z) ∷ [] in let own' : List (ℕ × T) = (m, q) ∷ [] in
                let p : own ≡ own' = sym asked.1.2 ∙ e in let first = same_number l m z q p in (λ j. (first j, y) ∷ []),
          ),
        )

    pub lone_opens : (key : Opening T) (word slot : ℕ) → IsStart key word slot
        → Opens (Lone before part opening lanes) (hand_of slot) (MayBeLeft before part slot) (TellsHistory before part slot) word slot
    lone_opens key word slot start =
        subst
        (λ (p : ℕ × ℕ).
        Opens (Lone before part opening lanes) (hand_of p.1) (MayBeLeft before part p.1) (TellsHistory before part p.1) p.0 p.1)
        (λ i. (sym start.0 i, sym start.1 i)) (λ s r. (r.log, r.kept, follows s r))
