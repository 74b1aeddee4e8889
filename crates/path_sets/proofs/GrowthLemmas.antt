-- More nodes, and the sets that there were.
use Rattle.std.proofs.Common.{◌≡◌, ℕ, zero, suc, ◌+◌, ◌-◌, ◌<◌, Bool, true, false, cond, nat_lt, nat_eq, List, []}
use Rattle.std.proofs.Common.{◌∷◌, ◌++◌, Option, Some, None, length, slice_get, refl, sym, ap, ◌∙◌, subst, arith}
use Rattle.std.proofs.Common.{true≢false, is_some, ◌⊎◌, inl, inr, length-append}
use Rattle.std.specs.Option.{option_map_or}
use Rattle.std.proofs.lemmas.Bool.{ltb-false}
use Rattle.std.proofs.lemmas.Option.{same_Some}
use Rattle.path_sets.specs.Walks.{node_at, walk, reaches, level_at, Descends, IsGrown, IsNumber, Preserves, StandOnce}
use Rattle.path_sets.proofs.WalkLemmas.{goes_on, next_below, number_of}

-- a list's items stay where they are when more are appended
pub get_before : {A : Type 0} (xs ys : List A) (i : ℕ) → i < length xs → slice_get (xs ++ ys) i ≡ slice_get xs i
get_before [] ys i h = absurd (omega (arith, h))
get_before (x ∷ xs) ys zero h = refl
get_before (x ∷ xs) ys (suc i) h = get_before xs ys i (omega (arith, h))

-- and has no other after it
pub got_from : {A : Type 0} (xs : List A) (y z : A) (i : ℕ) → slice_get (xs ++ y ∷ []) i ≡ Some z
    → ((i < length xs) × (slice_get xs i ≡ Some z)) ⊎ ((i ≡ length xs) × (z ≡ y))
got_from [] y z zero h = inr (refl, sym (same_Some y z h))
got_from [] y z (suc i) h = absurd (true≢false (sym (ap is_some h)))
got_from (x ∷ xs) y z zero h = inl (omega arith, h)
got_from (x ∷ xs) y z (suc i) h = elim (got_from xs y z i h) [
  | inl (less, was) ↦ inl (omega (arith, less), was)
  | inr (at, is) ↦ inr (omega (arith, at), is)
]

-- a number's node is the same with more nodes after
pub same_node_at : {X : Type 0} (ns ms : List X) (n : ℕ) → IsNumber ns n → node_at (ns ++ ms) n ≡ node_at ns n
same_node_at {X} ns ms n inside = by (nat_lt n 2) refl
  where
    by : (b : Bool) → nat_lt n 2 ≡ b → cond b None (slice_get (ns ++ ms) (n - 2)) ≡ cond b None (slice_get ns (n - 2))
    by true e = refl
    by false e = let least = ltb-false n 2 e in get_before ns ms (n - 2) (omega (arith, least, inside))

-- the number of a node tests its level
pub level_here : {X : Type 0} (level : X → ℕ) (last : ℕ) (ns : List X) (i : ℕ) (x : X) → slice_get ns i ≡ Some x
    → level_at level last ns (i + 2) ≡ level x
level_here level last ns i x at = ap (λ o. option_map_or level o last) (number_of ns i x at)

module _ {X : Type 0} (next : X → ℕ → ℕ) (level : X → ℕ) (last : ℕ) where
  -- a walk goes the same way with more nodes after
  same_walk : (ns ms : List X) → Descends next ns → (f n v : ℕ) → IsNumber ns n → walk next (ns ++ ms) f n v ≡ walk next ns f n v
  unfolding walk
  same_walk ns ms down zero n v inside = refl
  same_walk ns ms down (suc f) n v inside =
      ap (λ o. option_map_or (λ x. walk next (ns ++ ms) f (next x v) v) o (nat_eq n 1)) (same_node_at ns ms n inside)
      ∙ by (node_at ns n) refl (λ x less. same_walk ns ms down f (next x v) v (omega (arith, less, inside)))
    where
      by : (o : Option X) → node_at ns n ≡ o → ((x : X) → next x v < n
          → walk next (ns ++ ms) f (next x v) v ≡ walk next ns f (next x v) v)
          → option_map_or (λ x. walk next (ns ++ ms) f (next x v) v) o (nat_eq n 1) ≡ option_map_or
          (λ x. walk next ns f (next x v) v) o (nat_eq n 1)
      by None e rest = refl
      by (Some x) e rest = rest x (next_below next ns down n v x e)

  pub keeps_more : (ns ms : List X) → Descends next ns → Preserves next level last ns (ns ++ ms)
  unfolding reaches
  keeps_more ns ms down = record {
    longer = grind (arith, length-append {A = X});
    same = λ n v inside. same_walk ns ms down n n v inside;
    levels = λ n inside. ap (λ o. option_map_or level o last) (same_node_at ns ms n inside);
  }

  pub keeps_self : (ns : List X) → Preserves next level last ns ns
  keeps_self ns = record { longer = omega arith; same = λ n v inside. refl; levels = λ n inside. refl }

  pub keeps_on : (ns ms os : List X) → Preserves next level last ns ms → Preserves next level last ms os
      → Preserves next level last ns os
  keeps_on ns ms os a b =
      let la = a.longer in
      let lb = b.longer in record {
        longer = omega (arith, la, lb);
        same = λ n v inside. b.same n v (omega (arith, inside, la)) ∙ a.same n v inside;
        levels = λ n inside. b.levels n (omega (arith, inside, la)) ∙ a.levels n inside;
      }

  module _ (ns : List X) (down : Descends next ns) (x : X) where
    pub keeps_grown : (new : List X) → IsGrown x ns new → Preserves next level last ns new
    keeps_grown new (inl same) = subst (Preserves next level last ns) (sym same) (keeps_self ns)
    keeps_grown new (inr more) = subst (Preserves next level last ns) (sym more.0) (keeps_more ns (x ∷ []) down)

    -- the set of the number of a node that is put in, by those of the numbers that there were
    pub joined : (new : List X) → Descends next new → IsGrown x ns new → (i v : ℕ) → slice_get new i ≡ Some x
        → IsNumber ns (next x v) → reaches next new (i + 2) v ≡ reaches next ns (next x v) v
    joined new down' grown i v at inside =
        goes_on next new down' (i + 2) v x (number_of new i x at) ∙ (keeps_grown new grown).same (next x v) v inside

-- no node occurs twice after one that is new is put in
pub still_once : {X : Type 0} (x : X) (ns : List X) → StandOnce ns → (new : List X) → IsGrown x ns new → StandOnce new
still_once x ns once new (inl same) = subst StandOnce (sym same) once
still_once x ns once new (inr more) = subst StandOnce (sym more.0) (λ i j y h k. elim (got_from ns x y i h) [
  | inl (less, was) ↦ elim (got_from ns x y j k) [
    | inl (less', was') ↦ once i j y was was'
    | inr (at', is') ↦ absurd (more.1 i (was ∙ ap Some is'))
  ]
  | inr (at, is) ↦ elim (got_from ns x y j k) [
    | inl (less', was') ↦ absurd (more.1 j (was' ∙ ap Some is))
    | inr (at', is') ↦ at ∙ sym at'
  ]
])
