-- The steps of a lone lock beside the three of every lock: dealing, telling, learning, merging and closing.
use Rattle.std.proofs.Common.{◌≡◌, ◌≢◌, ◌⊎◌, inl, inr, ℕ, zero, suc, ◌+◌, ◌*◌, ◌^◌, ◌<◌, ◌≤◌, List, [], ◌∷◌, ◌++◌, map, length, set, get_or}
use Rattle.std.proofs.Common.{refl, sym, ap, ◌∙◌, subst, arith, Option, Some, length-append, lt_of_not-le}
use Rattle.std.proofs.lemmas.Bool.{le-ltb, lt-ltb}
use mathlib.Core.Option.{some, some-injective, some-ne-none}
use mathlib.Core.Logic.{dite}
use native.Mathlib.Decide.{ℕ_discrete, dec_le}
use lib.ListN.{get_elem?}
use lib.Seq.{set-get_or}
use Rattle.atomic_table.specs.Table.{State, Me, keeps, Allows, Splits, Joins, Enters, Final, Seen}
use Rattle.ticket_lock.specs.declared.hand.Hand.{Hand}
use Rattle.ticket_lock.specs.declared.view.View.{View}
use Rattle.ticket_lock.specs.Count.{times, total}
use Rattle.ticket_lock.specs.History.{StartsWith, EndsIn, longer, IsRising}
use Rattle.ticket_lock.specs.Core.{in_hand, Fits}
use Rattle.ticket_lock.specs.Turns.{Kept}
use Rattle.ticket_lock.specs.Lone.{hand_of, lane_numbers, new_view, nobody, taken_in, merged, just_seen, IsWhole, Rests, KeepsParts, Knows}
use Rattle.ticket_lock.specs.Lone.{Lone}
use Rattle.ticket_lock.specs.Lone.{TookIn}
use Rattle.ticket_lock.specs.Proved.Facts.{total_set, total_two, at_set, at_snoc}
use Rattle.ticket_lock.proofs.HistoryFacts.{total-snoc, total_only, total-map, at_longer, at_append}
use Rattle.ticket_lock.specs.Proved.Facts.{at_last, set_here, set_else, set_again, at_inside, map-set, at-map}
use Rattle.ticket_lock.specs.Proved.Facts.{StartsWith-refl}
use Rattle.ticket_lock.proofs.HistoryFacts.{times-append, StartsWith-length, StartsWith-whole, both_begin, EndsIn-some}
use Rattle.ticket_lock.proofs.HistoryFacts.{rises_short, rises_last}
use Rattle.ticket_lock.specs.Proved.LoneOpens.{rebuilt}
use Rattle.ticket_lock.proofs.CoreSteps.{core_same}
use Rattle.ticket_lock.proofs.HandLemmas.{Divides, core_joins, core_splits, divides_idle, divides_new, fits_idle}
use Rattle.std.proofs.lemmas.List.{map_push, map-append}

module _ {A : Type 0} where
  pub longer_first : (a b : List A) → length b ≤ length a → longer a b ≡ a
  longer_first a b d = rw (le-ltb (length a) (length b) d) refl

  pub longer_second : (a b : List A) → length a < length b → longer a b ≡ b
  longer_second a b d = rw (lt-ltb (length a) (length b) d) refl

  -- the longer of two prefixes of a history is one, and continues from both
  pub longer_begins : (log a b : List A) → StartsWith log a → StartsWith log b
      → StartsWith log (longer a b) × StartsWith (longer a b) a × StartsWith (longer a b) b
  longer_begins log a b p q = elim (dec_le (length b) (length a)) [
    | yes d ↦
        subst (λ l. StartsWith log l × StartsWith l a × StartsWith l b) (sym (longer_first a b d))
        (p, StartsWith-refl a, both_begin log a b p q d)
    | no d ↦
        (let lt = lt_of_not-le d in
        subst (λ l. StartsWith log l × StartsWith l a × StartsWith l b) (sym (longer_second a b lt))
        (q, both_begin log b a q p (omega arith), StartsWith-refl b))
  ]

  -- the longer of the whole and a prefix is the whole
  pub longer_whole : (log a b : List A) → StartsWith log a → StartsWith log b → (a ≡ log) ⊎ (b ≡ log) → longer a b ≡ log
  longer_whole log a b p q is =
      let r = longer_begins log a b p q in
      sym
      (StartsWith-whole log (longer a b) r.0
      (elim is [
        | inl e ↦ subst (λ l. length l ≤ length (longer a b)) e (StartsWith-length (longer a b) a r.1)
        | inr e ↦ subst (λ l. length l ≤ length (longer a b)) e (StartsWith-length (longer a b) b r.2)
      ]))

module _ {T Part : Type 0} (before : T → T → Type 0) (part : ℕ → T → Part) (opening : T) (lanes : ℕ) where
  abbrev Rule : State (Option T) (View T) → Type 0
  Rule = Lone before part opening lanes

  abbrev IsKnown : List T → List (View T) → Type 0
  IsKnown log views = (j : ℕ) × (v : View T) × (get_elem? views j ≡ some v) × (0 < length v.own) × ((v.hand.seen ≡ log) ⊎ (v.told ≡ log))

  known_more : (log : List T) (views : List (View T)) (w : View T) → IsKnown log views → IsKnown log (views ++ w ∷ [])
  known_more log views w k = (k.0, k.1, at_longer views (w ∷ []) k.0 k.1 k.2, k.3, k.4)

  log_some : (s : State (Option T) (View T)) (r : Rule s) → 0 < length r.log
  log_some s r = omega (arith, StartsWith-length r.log (opening ∷ []) r.begun)

  -- nothing was told if the list is empty
  not_told : (s : State (Option T) (View T)) (r : Rule s) (l : List T) → l ≡ [] → l ≡ r.log → ⊥
  not_told s r l none is = let n : length l ≡ 0 = ap length none in let m : length l ≡ length r.log = ap length is in
      let some_of = log_some s r in omega arith

  -- a view is cut in two
  split_keeps : (s : State (Option T) (View T)) (r : Rule s) (id : ℕ) (v a b : View T) → get_elem? s.views id ≡ some v
      → Divides v.hand a.hand b.hand
      → ((l : ℕ) → times l (lane_numbers a) + times l (lane_numbers b) ≡ times l (lane_numbers v))
      → length a.own + length b.own ≡ length v.own
      → Knows before part r.log a → Knows before part r.log b
      → IsKnown r.log (set s.views id a ++ b ∷ []) → Rule record { words = s.words; homes = s.homes; views = set s.views id a ++ b ∷ [] }
  split_keeps s r id v a b is_at divides nums lens knows_a knows_b known =
      let vs : List (View T) = set s.views id a in
      let sums : (f : View T → ℕ) → f a + f b ≡ f v → total f (vs ++ b ∷ []) ≡ total f s.views =
      λ f e. omega (arith, total-snoc f vs b, total_set f s.views id v a is_at) in
      record {
        log = r.log;
        kept =
            subst (λ l. Kept 0 0 r.log s.words s.homes l)
            (sym (map_push (hand_of 0) vs b ∙ ap (λ l. l ++ b.hand ∷ []) (map-set (hand_of 0) s.views id a))) record {
              room = r.kept.room;
              core = core_splits (get_or s.words 0 0) (get_or s.words 1 0) r.log (get_elem? s.homes 0) (map (hand_of 0) s.views) id
                  v.hand a.hand b.hand (at-map (hand_of 0) s.views id v is_at) divides r.kept.core;
            };
        begun = r.begun;
        rising = r.rising;
        each_view = λ j u e. elim (at_snoc vs b u j e) [
          | inl t ↦ subst (λ z. Knows before part r.log z) t.1 knows_b
          | inr t ↦
              elim (at_set s.views id j a u t) [ inl q ↦ subst (λ z. Knows before part r.log z) q.1 knows_a | inr q ↦ r.each_view j u q.1 ]
        ];
        whole = sums (λ (u : View T). length u.own) lens ∙ r.whole;
        once = λ l. omega (arith, sums (λ (u : View T). times l (lane_numbers u)) (nums l), r.once l);
        known = known;
      }

  knows_nothing : (log seen : List T) → Knows before part log (new_view seen [])
  knows_nothing log seen = record { shares = refl; told = (log, refl); owns = λ k l x y e. absurd (some-ne-none (l, x) (sym e)) }

  -- a lane's view tells what it has seen
  pub tells_allowed : (id : ℕ) (v : View T) → Splits Rule id v v (just_seen v)
  tells_allowed id v s r is_at =
      let none : set s.views id v ≡ s.views = set_again s.views id v is_at in
      split_keeps s r id v v (just_seen v) is_at (divides_idle v.hand v.hand.seen (λ log begins. begins))
      (λ l. omega arith) (omega arith) (r.each_view id v is_at) (knows_nothing r.log v.hand.seen)
      (subst (λ l. IsKnown r.log (l ++ just_seen v ∷ [])) (sym none) (known_more r.log s.views (just_seen v) r.known))

  -- the first view gives its first lane to a new seat
  pub deals_allowed : (id : ℕ) (seen : List T) (p : ℕ × T) (ps : List (ℕ × T))
      → Splits Rule id (new_view seen (p ∷ ps)) (new_view seen ps) (new_view seen (p ∷ []))
  deals_allowed id seen p ps s r is_at =
      let own : List (ℕ × T) = p ∷ ps in
      let v : View T = new_view seen own in
      let a : View T = new_view seen ps in
      let b : View T = new_view seen (p ∷ []) in
      let knows = r.each_view id v is_at in
      split_keeps s r id v a b is_at (divides_new seen (length ps))
      (λ l. omega arith)
      (omega arith) record { shares = refl; told = knows.told; owns = λ k l x y e. knows.owns (suc k) l x y e } record {
        shares = refl;
        told = knows.told;
        owns = λ k l x y e. first_only l x y k e knows.owns;
      }
      (dite (ℕ_discrete r.known.0 id)
      (λ (e : r.known.0 ≡ id).
      let is : r.known.1 ≡ v = some-injective r.known.1 v (sym r.known.2 ∙ (ap (get_elem? s.views) e ∙ is_at)) in
      let K : View T → Type 0 = λ u. (u.hand.seen ≡ r.log) ⊎ (u.told ≡ r.log) in
      let whole : seen ≡ r.log = elim (subst K is r.known.4) [ inl q ↦ q | inr q ↦ absurd (not_told s r [] refl q) ] in
      (length (set s.views id a), b, at_last (set s.views id a) b, omega arith, inl whole))
      (λ (ne : r.known.0 ≢ id).
      known_more r.log (set s.views id a) b
      (r.known.0, r.known.1, set_else s.views id r.known.0 a ne ∙ r.known.2, r.known.3, r.known.4)))
    where
      first_only : (l : ℕ) (x y : T) (k : ℕ) → (let one : List (ℕ × T) = p ∷ [] in get_elem? one k ≡ some (l, x))
          → ((k l : ℕ) (x y : T) → get_elem? (p ∷ ps) k ≡ some (l, x) → EndsIn r.log y → part l y ≡ part l x) → EndsIn r.log y
          → part l y ≡ part l x
      first_only l x y zero e owns ends = owns 0 l x y e ends
      first_only l x y (suc k) e owns ends = absurd (some-ne-none (l, x) (sym e))

  -- a view takes in what it was told
  pub takes_in_allowed : (slots id : ℕ) (m : Me (Option T) (View T)) → Allows Rule slots id m 0 (λ n. n) (λ n. TookIn before part m)
  takes_in_allowed slots id m s r len is_at small =
      let v : View T = m.0 in
      let w : View T = taken_in v in
      let knows = r.each_view id v is_at in
      let hs : List (Hand T) = map (hand_of 0) s.views in
      let is_h = at-map (hand_of 0) s.views id v is_at in
      let core = r.kept.core in
      let fits = core.each id v.hand is_h in
      let l = longer_begins r.log v.hand.seen v.told fits.begins knows.told in
      let sum : (f : Hand T → ℕ) → f w.hand ≡ f v.hand → total f (set hs id w.hand) ≡ total f hs =
      λ f e. omega (arith, total_set f hs id v.hand w.hand is_h) in
      let c =
      core_same (get_or s.words 0 0) (get_or s.words 1 0) r.log (get_elem? s.homes 0) hs core (set hs id w.hand)
      (λ n. sum (in_hand n) refl) (λ n. sum (λ (x : Hand T). times n x.drawn) refl) (sum (λ (x : Hand T). length x.drawn) refl)
      (sum (λ (x : Hand T). x.parts) refl) (sum (λ (x : Hand T). length x.inside) refl) (λ j x e. elim (at_set hs id j w.hand x e) [
        | inl t ↦ subst (λ z. Fits (get_or s.words 0 0) r.log z) t.1 record {
          begins = l.0;
          inside =
              elim fits.inside [
                | inl o ↦ inl o
                | inr o ↦ inr (o.0, longer_whole r.log v.hand.seen v.told fits.begins knows.told (inl o.1))
              ];
          few = fits.few;
          idle = fits.idle;
        }
        | inr t ↦ core.each j x t.1
      ]) in
      let known : IsKnown r.log (set s.views id w) = dite (ℕ_discrete r.known.0 id)
      (λ (e : r.known.0 ≡ id).
      let is : r.known.1 ≡ v = some-injective r.known.1 v (sym r.known.2 ∙ (ap (get_elem? s.views) e ∙ is_at)) in
      let K : View T → Type 0 = λ u. (0 < length u.own) × ((u.hand.seen ≡ r.log) ⊎ (u.told ≡ r.log)) in
      let at_v = subst K is (r.known.3, r.known.4) in (
        id,
        w,
        set_here s.views id w (at_inside s.views id v is_at),
        at_v.0,
        inl (longer_whole r.log v.hand.seen v.told fits.begins knows.told at_v.1),
      ))
      (λ (ne : r.known.0 ≢ id). (r.known.0, r.known.1, set_else s.views id r.known.0 w ne ∙ r.known.2, r.known.3, r.known.4)) in
      let kept' : Kept 0 0 r.log s.words s.homes (set hs id w.hand) = record { room = r.kept.room; core = c } in
      let done =
      rebuilt before part opening lanes s r id v is_at r.log s.words s.homes w kept' r.begun r.rising refl refl record {
        shares =
            knows.shares;
        told = (r.log, refl);
        owns = knows.owns;
      } (λ j u _ e. r.each_view j u e) known in (
        w,
        keeps,
        tt,
        subst (λ (ws : List ℕ). Rule record { words = ws; homes = s.homes; views = set s.views id w }) (sym (set-get_or s.words 0 0)) done,
        (
          refl,
          l.1,
          l.2,
          rises_short before r.log w.hand.seen l.0 r.rising,
          (λ k lane x at. let last = EndsIn-some r.log (log_some s r) in (
            last.0,
            knows.owns k lane x last.0 at last.1,
            λ z ends. rises_last before r.log w.hand.seen z last.0 r.rising l.0 ends last.1,
          )),
        ),
      )

  -- a new seat knows nothing
  pub arrives_allowed : (slots : ℕ) → Enters Rule slots 0 (λ n w. w ≡ nobody)
  arrives_allowed slots s r len small =
      let w : View T = nobody in
      let hs : List (Hand T) = map (hand_of 0) s.views in
      let core = r.kept.core in
      let sum : (f : Hand T → ℕ) → f w.hand ≡ 0 → total f (hs ++ w.hand ∷ []) ≡ total f hs = λ f e. omega (arith, total-snoc f hs w.hand) in
      let c =
      core_same (get_or s.words 0 0) (get_or s.words 1 0) r.log (get_elem? s.homes 0) hs core (hs ++ w.hand ∷ [])
      (λ n. sum (in_hand n) refl) (λ n. sum (λ (x : Hand T). times n x.drawn) refl) (sum (λ (x : Hand T). length x.drawn) refl)
      (sum (λ (x : Hand T). x.parts) refl) (sum (λ (x : Hand T). length x.inside) refl) (λ j x e. elim (at_snoc hs w.hand x j e) [
        | inl t ↦ subst (λ z. Fits (get_or s.words 0 0) r.log z) t.1 (fits_idle (get_or s.words 0 0) r.log [] 0 (r.log, refl))
        | inr t ↦ core.each j x t
      ]) in (
        w,
        record {
          log = r.log;
          kept =
              subst (λ l. Kept 0 0 r.log s.words s.homes l)
              (sym (map_push (hand_of 0) s.views w)) record { room = r.kept.room; core = c };
          begun = r.begun;
          rising = r.rising;
          each_view =
              λ j u e.
              elim (at_snoc s.views w u j e) [
                | inl t ↦ subst (λ z. Knows before part r.log z) t.1 (knows_nothing r.log [])
                | inr t ↦ r.each_view j u t
              ];
          whole = omega (arith, total-snoc (λ (u : View T). length u.own) s.views w, r.whole);
          once = λ l. omega (arith, total-snoc (λ (u : View T). times l (lane_numbers u)) s.views w, r.once l);
          known = known_more r.log s.views w r.known;
        },
        refl,
      )

  -- a seat takes in what another has, and is told what it has seen
  pub merges_allowed : (id : ℕ) (v : View T) (other : ℕ) (w : View T) → v.told ≡ [] → w.told ≡ [] → w.hand.inside ≡ []
      → Joins Rule id v other w (merged v w) nobody
  merges_allowed id v other w none_v none_w outside s r is_at apart is_now =
      let b : View T = merged v w in
      let z : View T = nobody in
      let vs : List (View T) = set s.views id b in
      let is_w : get_elem? s.views other ≡ some w = sym (set_else s.views id other b apart) ∙ is_now in
      let hs : List (Hand T) = map (hand_of 0) s.views in
      let is_hv = at-map (hand_of 0) s.views id v is_at in
      let is_hw = at-map (hand_of 0) s.views other w is_w in
      let knows_v = r.each_view id v is_at in
      let knows_w = r.each_view other w is_w in
      let sums : (f : View T → ℕ) → f b + f z ≡ f v + f w → total f (set vs other z) ≡ total f s.views =
      λ f e. omega (arith, total_set f s.views id v b is_at, total_set f vs other w z is_now) in
      let c = core_joins (get_or s.words 0 0) (get_or s.words 1 0) r.log (get_elem? s.homes 0) hs id other v.hand w.hand b.hand is_hv
      apart is_hw
      record { tickets = refl; inside = refl; drawn = refl; parts = refl; seen = inl refl } (inr refl) outside r.kept.core in
      let len : length b.own ≡ length v.own + length w.own = length-append v.own w.own in
      let knows_b : Knows before part r.log b = record {
        shares = omega (arith, knows_v.shares, knows_w.shares);
        told = (r.kept.core.each other w.hand is_hw).begins;
        owns =
            λ k l x y e ends.
            elim (at_append v.own w.own k (l, x) e) [ inl t ↦ knows_v.owns k l x y t ends | inr t ↦ knows_w.owns t.0 l x y t.1 ends ];
      } in
      -- the view that knew the log is in the one that took both
      let taken : (u : View T) → r.known.1 ≡ u → length u.own ≤ length b.own
      → ((u.hand.seen ≡ r.log) ⊎ (u.told ≡ r.log) → (b.hand.seen ≡ r.log) ⊎ (b.told ≡ r.log))
      → IsKnown r.log (set vs other z) =
      λ u is more saw.
      let at =
      subst (λ (u : View T). (0 < length u.own) × ((u.hand.seen ≡ r.log) ⊎ (u.told ≡ r.log))) is (r.known.3, r.known.4) in (
        id,
        b,
        set_else vs other id z (λ i. apart (sym i)) ∙ set_here s.views id b (at_inside s.views id v is_at),
        omega (arith, at.0, more),
        saw at.1,
      ) in
      let known : IsKnown r.log (set vs other z) = dite (ℕ_discrete r.known.0 id)
      (λ (e : r.known.0 ≡ id).
      taken v (some-injective r.known.1 v (sym r.known.2 ∙ (ap (get_elem? s.views) e ∙ is_at))) (omega (arith, len))
      (λ q. elim q [ inl q ↦ inl q | inr q ↦ absurd (not_told s r v.told none_v q) ]))
      (λ (ne : r.known.0 ≢ id). dite (ℕ_discrete r.known.0 other)
      (λ (e : r.known.0 ≡ other).
      taken w (some-injective r.known.1 w (sym r.known.2 ∙ (ap (get_elem? s.views) e ∙ is_w))) (omega (arith, len))
      (λ q. elim q [ inl q ↦ inr q | inr q ↦ absurd (not_told s r w.told none_w q) ]))
      (λ (no : r.known.0 ≢ other). (
        r.known.0,
        r.known.1,
        set_else vs other r.known.0 z no ∙ (set_else s.views id r.known.0 b ne ∙ r.known.2),
        r.known.3,
        r.known.4,
      ))) in
      record {
        log = r.log;
        kept =
            subst (λ l. Kept 0 0 r.log s.words s.homes l)
            (sym (map-set (hand_of 0) vs other z ∙ ap (λ l. set l other z.hand) (map-set (hand_of 0) s.views id b))) record {
              room = r.kept.room;
              core = c;
            };
        begun = r.begun;
        rising = r.rising;
        each_view = λ j u e. elim (at_set vs other j z u e) [
          | inl t ↦ subst (λ q. Knows before part r.log q) t.1 (knows_nothing r.log [])
          | inr t ↦
              elim (at_set s.views id j b u t.1) [
                | inl q ↦ subst (λ i. Knows before part r.log i) q.1 knows_b
                | inr q ↦ r.each_view j u q.1
              ]
        ];
        whole = sums (λ (u : View T). length u.own) (omega arith) ∙ r.whole;
        once =
            λ l.
            omega (
              arith,
              sums (λ (u : View T). times l (lane_numbers u))
                  (omega (
                    arith,
                    ap (times l) (map-append (λ (p : ℕ × T). p.0) v.own w.own),
                    times-append l (lane_numbers v) (lane_numbers w),
                  )),
              r.once l,
            );
        known = known;
      }

  -- what is left when a table is closed with a view that has all lanes, and no ticket
  pub closes : (id : ℕ) (v : View T) (words : List ℕ) (xs : List (Option T)) → IsWhole lanes v → Final (Seen Rule id v) words xs
      → (x : T) × (get_elem? xs 0 ≡ some (Some x)) × Rests opening v x × KeepsParts part v x × IsRising before v.hand.seen
  closes id v words xs is_whole final =
      let none_told = is_whole.0 in
      let none_waits = is_whole.1 in
      let none_inside = is_whole.2 in
      let all = is_whole.3 in
      let s = final.0 in
      let r = final.1.0 in
      let is_at = final.1.1 in
      let core = r.kept.core in
      let serving : ℕ = get_or s.words 0 0 in
      let next : ℕ = get_or s.words 1 0 in
      let hs : List (Hand T) = map (hand_of 0) s.views in
      let other_none : (j : ℕ) (u : View T) → j ≢ id → get_elem? s.views j ≡ some u → length u.own ≡ 0 = λ j u ne at_u.
      (let two = total_two (λ (i : View T). length i.own) s.views id j v u (λ i. ne (sym i)) is_at at_u in omega (arith, r.whole)) in
      let other_idle : (j : ℕ) (u : View T) → j ≢ id → get_elem? s.views j ≡ some u → u.hand.parts ≡ 0 =
      λ j u ne at_u. (r.each_view j u at_u).shares ∙ other_none j u ne at_u in
      let other_fits : (j : ℕ) (u : View T) → get_elem? s.views j ≡ some u → Fits serving r.log u.hand =
      λ j u at_u. core.each j u.hand (at-map (hand_of 0) s.views j u at_u) in
      let only : (f : Hand T → ℕ) → ((j : ℕ) (u : View T) → j ≢ id → get_elem? s.views j ≡ some u → f u.hand ≡ 0) → total f hs ≡ f v.hand =
      λ f none. total-map (hand_of 0) f s.views ∙ total_only (λ (u : View T). f u.hand) s.views id v is_at none in
      let in_hands : (n : ℕ) → total (in_hand n) hs ≡ 0 =
      λ n.
      (let t : times n v.hand.tickets ≡ 0 = ap (times n) none_waits in let i : times n v.hand.inside ≡ 0 = ap (times n) none_inside in
      omega (
        arith,
        only (in_hand n) (λ j u ne at_u. let idle = (other_fits j u at_u).idle (other_idle j u ne at_u) in
            let a : times n u.hand.tickets ≡ 0 = ap (times n) idle.0 in let b : times n u.hand.inside ≡ 0 = ap (times n) idle.1 in
            omega arith),
      )) in
      let served : next ≤ serving =
      elim (dec_le next serving) [
        | yes d ↦ d
        | no d ↦ (let lt = lt_of_not-le d in absurd (omega (arith, core.held serving (omega arith) lt, in_hands serving)))
      ] in
      let nobody_in : total (λ (x : Hand T). length x.inside) hs ≡ 0 =
      only (λ (x : Hand T). length x.inside) (λ j u ne at_u. ap length ((other_fits j u at_u).idle (other_idle j u ne at_u)).1)
      ∙ ap length none_inside in
      let other_drawn : (j : ℕ) (u : View T) → j ≢ id → get_elem? s.views j ≡ some u → length u.hand.drawn ≡ 0 =
      λ j u ne at_u. (let few = (other_fits j u at_u).few in let none = other_idle j u ne at_u in
      let few' : length u.hand.drawn ≤ 0 * 2 ^ 56 = subst (λ k. length u.hand.drawn ≤ k * 2 ^ 56) none few in omega arith) in
      let drawn : next ≡ length v.hand.drawn = sym core.drawn ∙ only (λ (x : Hand T). length x.drawn) other_drawn in
      let whole : v.hand.seen ≡ r.log = dite (ℕ_discrete r.known.0 id)
      (λ (e : r.known.0 ≡ id).
      let is : r.known.1 ≡ v = some-injective r.known.1 v (sym r.known.2 ∙ (ap (get_elem? s.views) e ∙ is_at)) in
      let K : View T → Type 0 = λ u. (u.hand.seen ≡ r.log) ⊎ (u.told ≡ r.log) in
      let q : v.hand.seen ≡ r.log = elim (subst K is r.known.4) [ inl q ↦ q | inr q ↦ absurd (not_told s r v.told none_told q) ] in q)
      (λ (ne : r.known.0 ≢ id). absurd (let z = other_none r.known.0 r.known.1 ne r.known.2 in omega (arith, r.known.3))) in
      let home = core.home nobody_in in
      let len : length v.hand.seen ≡ length r.log = ap length whole in (
        home.0,
        final.4 0 (Some home.0) home.2,
        (
          subst (λ l. EndsIn l home.0) (sym whole) home.1,
          subst (λ l. StartsWith l (opening ∷ [])) (sym whole) r.begun,
          omega (arith, core.served, core.order),
          (λ n lt. sym (only (λ (x : Hand T). times n x.drawn) (λ j u ne at_u. none_of n u.hand.drawn (other_drawn j u ne at_u)))
              ∙ core.drawn_once n (omega arith)),
          (λ n le. sym (only (λ (x : Hand T). times n x.drawn) (λ j u ne at_u. none_of n u.hand.drawn (other_drawn j u ne at_u)))
              ∙ core.undrawn n (omega arith)),
        ),
        (λ k l z at. (r.each_view id v is_at).owns k l z home.0 at home.1),
        subst (λ l. IsRising before l) (sym whole) r.rising,
      )
    where
      none_of : (n : ℕ) (l : List ℕ) → length l ≡ 0 → times n l ≡ 0
      none_of n [] e = refl
      none_of n (x ∷ xs) e = absurd (omega arith)
