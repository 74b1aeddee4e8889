-- If choice 0 of an assignment leads two valuations alike, each choice does.
use Rattle.std.proofs.Common.{◌≡◌, ◌≤◌, ◌⊎◌, ℕ, ◌/◌, not, Bool, true, false, cond, Some, List, [], ◌∷◌}
use Rattle.std.proofs.Common.{inl, inr, refl, sym, ap, ◌∙◌, arith}
use Rattle.std.specs.Int.RustNames.{bit_or}
use Rattle.std.proofs.lemmas.Nat.Bits.{same_from_bits}
use Rattle.std.proofs.lemmas.Option.{same_Some}
use Rattle.flow_graph.specs.Assignments.{masked, choice_left, after_writes}
use Rattle.flow_graph.specs.Bits.{bit_of, worth_of}
use Rattle.flow_graph.specs.Formulas.{side_value, says}
use Rattle.flow_graph.specs.Flows.{assigned, last_of, next_of}
use Rattle.flow_graph.specs.declared.assignment.Assignment.{Assignment}
use Rattle.flow_graph.specs.declared.assignment.Write.{Write}
use Rattle.flow_graph.specs.declared.flow.Flow.{Flow}
use Rattle.flow_graph.specs.declared.flow.Flow.TheVariants.{Assign, Test}
use Rattle.flow_graph.specs.declared.side.CompiledSide.{CompiledSide}
use Rattle.flow_graph.specs.declared.side.CompiledSide.TheVariants as side
use Rattle.flow_graph.proofs.Assignments.{or_one, or_then_xor}
use Rattle.flow_graph.proofs.Rows.{bits_or, bits_xor}
use Rattle.flow_graph.proofs.Stacks.{bit_worth}

-- the bits of the mask get the value, the others stay
pub masked_in : (n mask k : ℕ) (v : Bool) → bit_of (masked n mask v) k ≡ cond (bit_of mask k) v (bit_of n k)
masked_in n mask k true = bits_or n mask k ∙ or_one (bit_of n k) (bit_of mask k)
masked_in n mask k false =
    bits_xor (bit_or n mask) mask k
    ∙ ap (λ x. cond x (not (bit_of mask k)) (bit_of mask k)) (bits_or n mask k)
    ∙ or_then_xor (bit_of n k) (bit_of mask k)

-- by a choice a bit is the same from all valuations, or what it is by choice 0
abbrev Told : ℕ → (ℕ → ℕ → ℕ) → (ℕ → ℕ → ℕ) → Type 0
Told k by_choice by_0 = ((d : Bool) × ((u n : ℕ) → bit_of (by_choice u n) k ≡ d))
    ⊎ ((u n : ℕ) → bit_of (by_choice u n) k ≡ bit_of (by_0 u n) k)

module _ {A : Type 0} (k : ℕ) where
  -- a bit is after_writes, whatever it was before, or stays what it was
  written_or_kept : (ws : List (Write A)) →
      ((u c n m : ℕ) → bit_of (after_writes ws u c n) k ≡ bit_of (after_writes ws u c m) k)
      ⊎ ((u c n : ℕ) → bit_of (after_writes ws u c n) k ≡ bit_of n k)
  written_or_kept [] = inr (λ u c n. refl)
  written_or_kept (w ∷ ws) = elim (written_or_kept ws) [
    | inl set ↦ inl (λ u c n m. set u (choice_left w.side c)
        (masked n w.mask (side_value w.side u c)) (masked m w.mask (side_value w.side u c)))
    | inr kept ↦ by (bit_of w.mask k) refl kept
  ]
    where
      by : (b : Bool) → bit_of w.mask k ≡ b → ((u c n : ℕ) → bit_of (after_writes ws u c n) k ≡ bit_of n k)
          → ((u c n m : ℕ) → bit_of (after_writes (w ∷ ws) u c n) k ≡ bit_of (after_writes (w ∷ ws) u c m) k)
          ⊎ ((u c n : ℕ) → bit_of (after_writes (w ∷ ws) u c n) k ≡ bit_of n k)
      by true e kept = inl (λ u c n m.
          let v = side_value w.side u c in
          let to : (i : ℕ) → bit_of (after_writes (w ∷ ws) u c i) k ≡ v =
          λ i. kept u (choice_left w.side c) (masked i w.mask v) ∙ masked_in i w.mask k v ∙ ap (λ b. cond b v (bit_of i k)) e in
          to n ∙ sym (to m))
      by false e kept = inr (λ u c n.
          let v = side_value w.side u c in
          kept u (choice_left w.side c) (masked n w.mask v) ∙ masked_in n w.mask k v ∙ ap (λ b. cond b v (bit_of n k)) e)

  module _ (mask : ℕ) (ws : List (Write A)) where
    abbrev after : CompiledSide A → ℕ → ℕ → ℕ → ℕ
    after s c u n = after_writes ws u (choice_left s c) (masked n mask (side_value s u c))

    told_more : (s : CompiledSide A) (c : ℕ) → Told k (λ u n. after_writes ws u (choice_left s c) n) (λ u n. after_writes ws u 0 n)
        → Told k (after s c) (after s 0)
    told_more (side.Value f) c (inl (d, all)) = inl (d, λ u n. all u (masked n mask (says f u)))
    told_more (side.Value f) c (inr same) = inr (λ u n. same u (masked n mask (says f u)))
    told_more side.Any c (inl (d, all)) = inl (d, λ u n. all u (masked n mask (bit_of c 0)))
    told_more side.Any c (inr same) = elim (written_or_kept ws) [
      | inl set ↦ inr (λ u n. same u (masked n mask (bit_of c 0))
          ∙ set u 0 (masked n mask (bit_of c 0)) (masked n mask (bit_of 0 0)))
      | inr kept ↦ by (bit_of mask k) refl kept
    ]
      where
        by : (b : Bool) → bit_of mask k ≡ b → ((u c n : ℕ) → bit_of (after_writes ws u c n) k ≡ bit_of n k)
            → Told k (after side.Any c) (after side.Any 0)
        by true e kept = inl (
          bit_of c 0,
          λ u n.
              kept u (c / 2) (masked n mask (bit_of c 0)) ∙ masked_in n mask k (bit_of c 0)
              ∙ ap (λ b. cond b (bit_of c 0) (bit_of n k)) e,
        )
        by false e kept = inr (λ u n.
            let to : (i j : ℕ) → bit_of (after_writes ws u j (masked n mask (bit_of i 0))) k ≡ bit_of n k =
            λ i j. kept u j (masked n mask (bit_of i 0)) ∙ masked_in n mask k (bit_of i 0)
            ∙ ap (λ b. cond b (bit_of i 0) (bit_of n k)) e in
            to c (c / 2) ∙ sym (to 0 0))

  told : (ws : List (Write A)) (c : ℕ) → Told k (λ u n. after_writes ws u c n) (λ u n. after_writes ws u 0 n)
  told [] c = inr (λ u n. refl)
  told (w ∷ ws) c = told_more w.mask ws w.side c (told ws (choice_left w.side c))

-- so it is the same from two valuations that choice 0 leads alike
pub assigned_alike : {A : Type 0} (a : Assignment A) (u v i : ℕ) → assigned a u 0 ≡ assigned a v 0
    → assigned a u i ≡ assigned a v i
assigned_alike a u v i same = same_from_bits (assigned a u i) (assigned a v i) (λ k.
    bit_worth (assigned a u i) k ∙ ap worth_of (same_bit k) ∙ sym (bit_worth (assigned a v i) k))
  where
    same_bit : (k : ℕ) → bit_of (assigned a u i) k ≡ bit_of (assigned a v i) k
    same_bit k = elim (told k a.writes.items i) [
      | inl (d, all) ↦ all u u ∙ sym (all v v)
      | inr is ↦ is u u ∙ ap (λ n. bit_of n k) same ∙ sym (is v v)
    ]

-- if a flow has more than two choices, and choice 0 leads two valuations alike, each choice does
pub next_alike : {A : Type 0} (flow : Flow A) (u v i m n w : ℕ) → 2 ≤ last_of flow → next_of flow u 0 ≡ Some (m, w)
    → next_of flow v 0 ≡ Some (n, w) → next_of flow u i ≡ next_of flow v i
next_alike (Assign a to) u v i m n w more from_u from_v =
    let by_u : assigned a u 0 ≡ w = ap (λ (p : ℕ × ℕ). p.1) (same_Some (to, assigned a u 0) (m, w) from_u) in
    let by_v : assigned a v 0 ≡ w = ap (λ (p : ℕ × ℕ). p.1) (same_Some (to, assigned a v 0) (n, w) from_v) in
    ap (λ z. Some (to, z)) (assigned_alike a u v i (by_u ∙ sym by_v))
next_alike (Test side.Any x y) u v i m n w more from_u from_v = absurd (omega (arith, more))
next_alike (Test (side.Value f) x y) u v i m n w more from_u from_v = absurd (omega (arith, more))
next_alike _ u v i m n w more from_u from_v = absurd (omega (arith, more))
