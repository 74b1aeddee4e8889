-- The rule of a lone lock holds for a new table, and the lanes that are dealt.
use Rattle.std.proofs.Common.{◌≡◌, ◌≢◌, inl, ℕ, zero, suc, ◌+◌, ◌-◌, ◌<◌, ◌≤◌, List, [], ◌∷◌, ◌++◌, map, length, refl, sym, ap, ◌∙◌, subst}
use Rattle.std.proofs.Common.{arith, Option, Some}
use mathlib.Core.Option.{some, some-injective, some-ne-none}
use mathlib.Core.Logic.{dite}
use native.Mathlib.Decide.{ℕ_discrete}
use lib.ListN.{get_elem?}
use Rattle.atomic_table.specs.Table.{Me, Splits, opening}
use Rattle.atomic_table.specs.Seated.{TableId}
use Rattle.ticket_lock.specs.declared.view.View.{View}
use Rattle.ticket_lock.specs.Count.{times}
use Rattle.ticket_lock.specs.History.{IsRising}
use Rattle.ticket_lock.specs.Lone.{lanes_from, new_view, less_one, just_one, Knows, Lone}
use Rattle.ticket_lock.specs.Lanes.{Standing, standing, fresh_lane, fresh_lanes}
use Rattle.ticket_lock.proofs.LoneSteps.{deals_allowed}
use Rattle.ticket_lock.specs.Proved.Facts.{times-one, EndsIn-same, StartsWith-refl}
use Rattle.ticket_lock.proofs.HistoryFacts.{times-other}
use Rattle.ticket_lock.proofs.HandLemmas.{at_only, core_new}

module _ {T : Type 0} where
  pub length-lanes : (first count : ℕ) (x : T) → length (lanes_from first count x) ≡ count
  length-lanes first zero x = refl
  length-lanes first (suc count) x = ap suc (length-lanes (suc first) count x)

  lanes_same : (first count : ℕ) (x : T) (k l : ℕ) (a : T) → get_elem? (lanes_from first count x) k ≡ some (l, a) → x ≡ a
  lanes_same first zero x k l a e = absurd (some-ne-none (l, a) (sym e))
  lanes_same first (suc count) x zero l a e = let p : (first, x) ≡ (l, a) = some-injective (first, x) (l, a) e in ap (λ q. q.1) p
  lanes_same first (suc count) x (suc k) l a e = lanes_same (suc first) count x k l a e

  lanes_below : (first count l : ℕ) (x : T) → l < first → times l (map (λ p. p.0) (lanes_from first count x)) ≡ 0
  lanes_below first zero l x lt = refl
  lanes_below first (suc count) l x lt = let none : times l (first ∷ []) ≡ 0 = times-other l first (λ e. omega arith) in
      omega (arith, lanes_below (suc first) count l x (omega arith))

  lanes_once : (first count l : ℕ) (x : T) → times l (map (λ p. p.0) (lanes_from first count x)) ≤ 1
  lanes_once first zero l x = omega arith
  lanes_once first (suc count) l x = dite (ℕ_discrete first l)
      (λ (e : first ≡ l). let one : times l (first ∷ []) ≡ 1 = subst (λ n. times l (n ∷ []) ≡ 1) (sym e) (times-one l) in
      omega (arith, lanes_below (suc first) count l x (omega arith)))
      (λ (ne : first ≢ l). let none : times l (first ∷ []) ≡ 0 = times-other l first ne in omega (arith, lanes_once (suc first) count l x))

  pub fresh-snoc : (id : TableId) (budget first count : ℕ) (x : T)
      → fresh_lanes id budget x first (count + 1) ≡ fresh_lanes id budget x first count ++ fresh_lane id budget x (first + count) ∷ []
  fresh-snoc id budget first zero x = (λ i. fresh_lane id budget x (e i) ∷ []) where
    e : first ≡ first + 0
    e = omega arith
  fresh-snoc id budget first (suc count) x =
      let n : suc count + 1 ≡ suc (count + 1) = omega arith in
      let m : suc first + count ≡ first + suc count = omega arith in
      ap (λ (k : ℕ). fresh_lanes id budget x first k) n
      ∙ (ap (λ r. fresh_lane id budget x first ∷ r) (fresh-snoc id budget (suc first) count x)
      ∙ (λ i. fresh_lane id budget x first ∷ (fresh_lanes id budget x (suc first) count ++ fresh_lane id budget x (m i) ∷ [])))

  pub length-fresh : (id : TableId) (budget first count : ℕ) (x : T) → length (fresh_lanes id budget x first count) ≡ count
  length-fresh id budget first zero x = refl
  length-fresh id budget first (suc count) x = ap suc (length-fresh id budget (suc first) count x)

  -- what is left after one lane was dealt
  pub less_next : (seen : List T) (first left : ℕ) (x : T) → 0 < left
      → less_one (new_view seen (lanes_from first left x)) ≡ new_view seen (lanes_from (first + 1) (left - 1) x)
  less_next seen first zero x some_of = absurd (omega arith)
  less_next seen first (suc k) x some_of =
      let n : suc first ≡ first + 1 = omega arith in
      let m : k ≡ suc k - 1 = omega arith in
      λ i. new_view seen (lanes_from (n i) (m i) x)

  -- the lane that was dealt
  pub just_fresh : (id : TableId) (budget first left : ℕ) (x : T) → 0 < left
      → standing id first budget (just_one (new_view (x ∷ []) (lanes_from first left x))) ≡ fresh_lane id budget x first
  just_fresh id budget first zero x some_of = absurd (omega arith)
  just_fresh id budget first (suc k) x some_of = refl

  -- one more lane dealt
  pub dealt_next : (id own_id : TableId) (budget n n' lanes left : ℕ) (x : T) (m m' own : Me (Option T) (View T))
      (items items' : List (Standing T)) → n + left ≡ lanes → n < lanes → n' ≡ n → own_id ≡ id
      → m ≡ (new_view (x ∷ []) (lanes_from n left x), []) → m' ≡ (less_one m.0, m.1) → own ≡ (just_one m.0, [])
      → items ≡ fresh_lanes id budget x 0 n → items' ≡ items ++ standing own_id n' budget own.0 ∷ []
      → (k : ℕ) × (n + 1 + k ≡ lanes) × (m' ≡ (new_view (x ∷ []) (lanes_from (n + 1) k x), []))
      × (items' ≡ fresh_lanes id budget x 0 (n + 1))
  dealt_next id own_id budget n n' lanes left x m m' own items items' sum lt same_n same_id is is' own_is items_are items_now =
      let some_of : 0 < left = omega arith in
      let first : m.0 ≡ new_view (x ∷ []) (lanes_from n left x) = ap (λ z. z.0) is in
      let none : m.1 ≡ [] = ap (λ z. z.1) is in
      let own_view : own.0 ≡ just_one (new_view (x ∷ []) (lanes_from n left x)) = ap (λ z. z.0) own_is ∙ ap just_one first in
      let lane : standing own_id n' budget own.0 ≡ fresh_lane id budget x n = (λ i. standing (same_id i) (same_n i) budget (own_view i))
      ∙ just_fresh id budget n left x some_of in
      let zero_n : n ≡ 0 + n = omega arith in (
        left - 1,
        omega arith,
        is' ∙ ((λ i. (less_one (first i), none i)) ∙ (λ i. (less_next (x ∷ []) n left x some_of i, []))),
        items_now
            ∙ ((λ i. items_are i ++ lane i ∷ [])
            ∙ ((λ i. fresh_lanes id budget x 0 n ++ fresh_lane id budget x (zero_n i) ∷ []) ∙ sym (fresh-snoc id budget 0 n x))),
      )

module _ {T Part : Type 0} (before : T → T → Type 0) (part : ℕ → T → Part) where
  pub opens : (same : (x : T) → before x x) (x : T) (lanes : ℕ) → 0 < lanes → lanes ≤ 64
      → Lone before part x lanes (opening (0 ∷ 0 ∷ []) (Some x ∷ []) (new_view (x ∷ []) (lanes_from 0 lanes x)))
  opens same x lanes some_of few =
      let own : List (ℕ × T) = lanes_from 0 lanes x in
      let v : View T = new_view (x ∷ []) own in
      let count : length own ≡ lanes = length-lanes 0 lanes x in
      record {
        log = x ∷ [];
        kept = record {
          room = omega arith;
          core = core_new (x ∷ []) (length own) x (some (some (Some x))) (StartsWith-refl (x ∷ [])) (omega arith) refl;
        };
        begun = StartsWith-refl (x ∷ []);
        rising = rises_one;
        each_view =
            at_only (Knows before part (x ∷ [])) v record {
              shares = refl;
              told = (x ∷ [], refl);
              owns = λ k l a y e ends. let only : x ≡ y = EndsIn-same (x ∷ []) x y ([], refl) ends in
                  ap (part l) (sym only ∙ lanes_same 0 lanes x k l a e);
            };
        whole = omega arith;
        once = λ l. omega (arith, lanes_once 0 lanes l x);
        known = (0, v, refl, omega arith, inl refl);
      }
    where
      rises_one : IsRising before (x ∷ [])
      rises_one zero zero a b le p q = let e : a ≡ b = sym (some-injective x a p) ∙ some-injective x b q in
          subst (λ z. before a z) e (same a)
      rises_one zero (suc j) a b le p q = absurd (some-ne-none b (sym q))
      rises_one (suc i) j a b le p q = absurd (some-ne-none a (sym p))

  pub deals_from : (opening : T) (lanes id : ℕ) (seen : List T) (first left : ℕ) (x : T) (v : View T)
      → v ≡ new_view seen (lanes_from first left x) → 0 < left → Splits (Lone before part opening lanes) id v (less_one v) (just_one v)
  deals_from opening lanes id seen first zero x v is some_of = absurd (omega arith)
  deals_from opening lanes id seen first (suc k) x v is some_of =
      subst (λ u. Splits (Lone before part opening lanes) id u (less_one u) (just_one u)) (sym is)
      (deals_allowed before part opening lanes id seen (first, x) (lanes_from (suc first) k x))
