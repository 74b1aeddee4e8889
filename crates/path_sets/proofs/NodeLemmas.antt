-- BitNodes that test one bit, and one more of them.
use Rattle.std.proofs.Common.{◌≡◌, ◌≢◌, ℕ, ◌+◌, ◌<◌, Bool, true, false, cond, List, [], ◌∷◌, ◌++◌}
use Rattle.std.proofs.Common.{Some, slice_get, sym, ◌∙◌, subst, refl, arith, inl, inr}
use Rattle.language.specs.Words.{word_bits}
use Rattle.path_sets.specs.declared.counting.bit_node.BitNode.{BitNode}
use Rattle.path_sets.specs.Masks.{bit_of}
use Rattle.path_sets.specs.Walks.{Descends, IsGrown, IsNumber}
use Rattle.path_sets.specs.Diagrams.{accepts, AreOrdered, AreReduced, child, GoDown, KeepsNodes, level_of}
use Rattle.path_sets.proofs.GrowthLemmas.{got_from, joined, keeps_grown, keeps_more}

-- a step goes down
pub descends : (ns : List BitNode) → GoDown ns → Descends child ns
descends ns down i v x h = by (bit_of v x.level)
  where
    by : (b : Bool) → cond b x.high x.low < i + 2
    by true = let d = down i x h in omega (arith, d)
    by false = let d = down i x h in omega (arith, d)

module _ (ns : List BitNode) (down : GoDown ns) (x : BitNode) (small : x.level < word_bits) (low : IsNumber ns x.low)
    (high : IsNumber ns x.high) where
  -- children of the nodes that there are come before the new one
  down_more : GoDown (ns ++ x ∷ [])
  down_more i y h = elim (got_from ns x y i h) [
    | inl (less, was) ↦ down i y was
    | inr (at, is) ↦ subst (λ (z : BitNode). (z.level < word_bits) × (z.low < i + 2) × (z.high < i + 2)) (sym is)
        (small, omega (arith, at, low), omega (arith, at, high))
  ]

  pub still_down : (new : List BitNode) → IsGrown x ns new → GoDown new
  still_down new (inl same) = subst GoDown (sym same) down
  still_down new (inr more) = subst GoDown (sym more.0) down_more

  pub node_keeps : (new : List BitNode) → IsGrown x ns new → KeepsNodes ns new
  node_keeps new grown = keeps_grown child (λ y. y.level) word_bits ns (descends ns down) x new grown

  -- the new node's children test later levels
  pub still_ordered : (x.level < level_of ns x.low) × (x.level < level_of ns x.high) → AreOrdered ns
      → (new : List BitNode) → IsGrown x ns new → AreOrdered new
  still_ordered own ordered new (inl same) = subst AreOrdered (sym same) ordered
  still_ordered own ordered new (inr more) = subst AreOrdered (sym more.0) all
    where
      k : KeepsNodes ns (ns ++ x ∷ [])
      k = keeps_more child (λ y. y.level) word_bits ns (x ∷ []) (descends ns down)

      all : AreOrdered (ns ++ x ∷ [])
      all i y h = elim (got_from ns x y i h) [
        | inl (less, was) ↦
            let d = down i y was in
            let o = ordered i y was in
            let l = k.levels y.low (omega (arith, d, less)) in
            let m = k.levels y.high (omega (arith, d, less)) in
            (omega (arith, o, l), omega (arith, o, m))
        | inr (at, is) ↦
            let l = k.levels x.low low in
            let m = k.levels x.high high in
            subst (λ (z : BitNode). (z.level < level_of (ns ++ x ∷ []) z.low) × (z.level < level_of (ns ++ x ∷ []) z.high)) (sym is)
            (omega (arith, own, l), omega (arith, own, m))
      ]

  -- and differ
  pub still_reduced : x.low ≢ x.high → AreReduced ns → (new : List BitNode) → IsGrown x ns new → AreReduced new
  still_reduced own reduced new (inl same) = subst AreReduced (sym same) reduced
  still_reduced own reduced new (inr more) = subst AreReduced (sym more.0) (λ i y h. elim (got_from ns x y i h) [
    | inl (less, was) ↦ reduced i y was
    | inr (at, is) ↦ subst (λ (z : BitNode). z.low ≢ z.high) (sym is) own
  ])

  -- the set of the number of the node
  pub node_joined : (new : List BitNode) → IsGrown x ns new → (i v : ℕ) → slice_get new i ≡ Some x
      → accepts new (i + 2) v ≡ cond (bit_of v x.level) (accepts ns x.high v) (accepts ns x.low v)
  node_joined new grown i v at =
      joined child (λ y. y.level) word_bits ns (descends ns down) x new (descends new (still_down new grown)) grown i v at
      (inside (bit_of v x.level)) ∙ by (bit_of v x.level)
    where
      inside : (b : Bool) → IsNumber ns (cond b x.high x.low)
      inside true = high
      inside false = low

      by : (b : Bool) → accepts ns (cond b x.high x.low) v ≡ cond b (accepts ns x.high v) (accepts ns x.low v)
      by true = refl
      by false = refl
