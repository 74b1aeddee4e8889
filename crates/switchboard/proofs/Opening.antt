-- What the passes of a new board know.
use Rattle.std.specs.Prelude.{Result, IfOk, map}
use Rattle.std.proofs.Common.{inl, inr, Ok, Err, ◌≡◌, ℕ, zero, suc, ◌+◌, ◌<◌, ◌≤◌, true, List, [], ◌∷◌, ◌++◌, length, refl, sym, ap, ◌∙◌}
use Rattle.std.proofs.Common.{subst, arith}
use Rattle.atomic_table.specs.Seated.{TableId}
use Rattle.ticket_lock.specs.Lanes.{Standing, fresh_lane, fresh_lanes}
use Rattle.post_ledger.specs.declared.entry.Entry.TheVariants.{Posted}
use Rattle.post_ledger.proofs.Histories.{at_push_cases}
use Rattle.post_ledger.proofs.Orders.{lawful_open}
use Rattle.switchboard.specs.Sights.{BoardState, IsSound, opened, fresh_sight, fresh_sights}
use Rattle.switchboard.specs.Passes.{IsPass, sight_of}

plus : (n : ℕ) → n ≡ n + 0
plus n = omega arith

shift : (a b : ℕ) → suc a + b ≡ a + suc b
shift a b = omega arith

-- the lane after some of the new ones is the next
pub fresh_at : {T : Type 0} (id : TableId) (budget : ℕ) (x : T) (first count : ℕ) (xs rest : List (Standing T)) (lane : Standing T)
    → xs ++ lane ∷ rest ≡ fresh_lanes id budget x first count → (lane ≡ fresh_lane id budget x (first + length xs)) × (length xs < count)
fresh_at id budget x first zero [] rest lane e = (let none : lane ∷ rest ≡ [] = e in cc)
fresh_at id budget x first zero (y ∷ xs) rest lane e = (let none : y ∷ (xs ++ lane ∷ rest) ≡ [] = e in cc)
fresh_at id budget x first (suc count) [] rest lane e = (head e ∙ ap (fresh_lane id budget x) (plus first), omega arith)
  where
    head : {X : Type 0} {a b : X} {xs ys : List X} → a ∷ xs ≡ b ∷ ys → a ≡ b
    head e = cc
fresh_at id budget x first (suc count) (y ∷ xs) rest lane e =
    let r = fresh_at id budget x (suc first) count xs rest lane (tail e) in
    (r.0 ∙ ap (fresh_lane id budget x) (shift first (length xs)), omega (arith, r.1))
  where
    tail : {X : Type 0} {a b : X} {xs ys : List X} → a ∷ xs ≡ b ∷ ys → xs ≡ ys
    tail e = cc

-- and so is the one that the iterator gives
pub fresh_next : {T : Type 0} (id : TableId) (budget : ℕ) (x : T) (count : ℕ) (xs : List (Standing T))
    {all rest : List (Standing T)} {lane : Standing T} →
    all ≡ lane ∷ rest → xs ++ all ≡ fresh_lanes id budget x 0 count →
    (xs ++ lane ∷ rest ≡ fresh_lanes id budget x 0 count) × ((lane ≡ fresh_lane id budget x (0 + length xs)) × (length xs < count))
fresh_next id budget x count xs {rest = rest} {lane = lane} gives are =
    let seen = ap (λ l. xs ++ l) (sym gives) ∙ are in (seen, fresh_at id budget x 0 count xs rest lane seen)

pub fresh_count : {T : Type 0} (id : TableId) (budget : ℕ) (x : T) (first count : ℕ) → length (fresh_lanes id budget x first count) ≡ count
fresh_count id budget x first zero = refl
fresh_count id budget x first (suc count) = ap suc (fresh_count id budget x (suc first) count)

module _ {M W : Type 0} where
  -- one more pass
  pub sights_push : (id : TableId) (budget : ℕ) (s : BoardState M W) (first count : ℕ)
      → fresh_sights id budget s first (suc count) ≡ fresh_sights id budget s first count ++ fresh_sight id budget s (first + count) ∷ []
  sights_push id budget s first zero = ap (λ n. fresh_sight id budget s n ∷ []) (plus first)
  sights_push id budget s first (suc count) =
      ap (λ l. fresh_sight id budget s first ∷ l)
      (sights_push id budget s (suc first) count
      ∙ ap (λ n. fresh_sights id budget s (suc first) count ++ fresh_sight id budget s n ∷ []) (shift first count))

  pub sights_count : (id : TableId) (budget : ℕ) (s : BoardState M W) (first count : ℕ)
      → length (fresh_sights id budget s first count) ≡ count
  sights_count id budget s first zero = refl
  sights_count id budget s first (suc count) = ap suc (sights_count id budget s (suc first) count)

  -- how a pass with a new lane shows itself
  pub sight_fresh : (id : TableId) (budget : ℕ) (w v : W) (boxes to number : ℕ) (m : M) (lane : Standing (BoardState M W))
      (s : BoardState M W)
      → s ≡ opened w boxes to m → v ≡ w → lane ≡ fresh_lane id budget s number → sight_of lane v boxes true ≡ fresh_sight id budget s number
  sight_fresh id budget w v boxes to number m lane s same world is =
      let first : BoardState M W = opened w boxes to m in
      let there : fresh_sight id budget first number ≡ fresh_sight id budget s number =
      ap (λ q. fresh_sight id budget q number) (sym same) in
      (λ i. sight_of ((is ∙ ap (λ q. fresh_lane id budget q number) same) i) (world i) boxes true) ∙ there

  module _ (fits : W → ℕ → M → Type 0) where
    pub sound_open : (w : W) (boxes to : ℕ) (m : M) → to < boxes → fits w to m → IsSound fits (opened w boxes to m)
    sound_open w boxes to m near fit = record {
      lawful = lawful_open boxes to m near;
      fitting = λ i to' sender n t at. elim (at_push_cases [] (Posted to boxes m 0) (Posted to' sender n t) i at) [
        | inl none ↦ cc
        | inr last ↦
            (let same : Posted to boxes m 0 ≡ Posted to' sender n t = last.1 in let a : to ≡ to' = cc in let b : m ≡ n = cc in
            subst (λ k. fits w k n) a (subst (λ k. fits w to k) b fit))
      ];
      by = λ a is. cc;
    }

    -- a pass with a new lane
    pub pass_fresh : (id : TableId) (budget : ℕ) (w : W) (boxes to number : ℕ) (m : M) (lane : Standing (BoardState M W))
        (s : BoardState M W)
        → s ≡ opened w boxes to m → lane ≡ fresh_lane id budget s number → number < boxes → boxes ≤ 64 → 0 < budget → to < boxes
        → fits w to m → IsPass fits lane w boxes true
    pass_fresh id budget w boxes to number m lane s same is near few some_of short fit =
        subst (λ l. IsPass fits l w boxes true) (sym (is ∙ ap (λ q. fresh_lane id budget q number) same)) record {
          waits = refl;
          outside = refl;
          last = opened w boxes to m;
          ends = ([], refl);
          sound = sound_open w boxes to m short fit;
          same_world = refl;
          same_boxes = refl;
          left = opened w boxes to m;
          has = refl;
          own_part = refl;
          number = near;
          few = few;
          ticket = λ e. some_of;
          not_by = λ e. refl;
          knows = λ e. cc;
        }

-- what holds for a value that was given
pub on_ok : {X E : Type 0} (r : Result X E) (P Q : X → Type 0) → ((x : X) → P x → Q x) → IfOk r P → IfOk r Q
on_ok (Ok x) P Q f h = f x h
on_ok (Err e) P Q f h = h

pub map_same : {X : Type 0} (l : List X) → map (λ x. x) l ≡ l
map_same [] = refl
map_same (x ∷ xs) = ap (λ r. x ∷ r) (map_same xs)
