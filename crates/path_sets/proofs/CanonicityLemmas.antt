-- In ordered and reduced diagrams equal sets have one number.
use Rattle.std.proofs.Common.{◌≡◌, ℕ, zero, suc, ◌+◌, ◌-◌, ◌/◌, ◌^◌, ◌<◌, ◌≤◌, Bool, true, false, cond}
use Rattle.std.proofs.Common.{nat_lt, nat_eq}
use Rattle.std.proofs.Common.{◌==◌, ◌⊎◌, inl, inr, List, None, Some, slice_get, refl, sym, ap, ◌∙◌, arith}
use Rattle.std.proofs.Common.{true≢false}
use Rattle.std.specs.Option.{option_map_or}
use Rattle.std.proofs.lemmas.Bool.{ltb-true, ltb-false, cases_lt}
use Rattle.std.proofs.lemmas.Option.{slice_get_cases}
use Rattle.language.specs.Words.{word_bits}
use Rattle.path_sets.specs.declared.counting.bit_node.BitNode.{BitNode}
use Rattle.path_sets.specs.Masks.{bit_of}
use Rattle.path_sets.specs.Walks.{IsNumber, node_at}
use Rattle.path_sets.specs.Diagrams.{accepts, AreOrdered, AreReduced, child, GoDown, level_of}
use Rattle.path_sets.specs.Walks.{StandOnce}
use Rattle.path_sets.proofs.WalkLemmas.{has_node, goes_on, at_leaf}
use Rattle.path_sets.proofs.NodeLemmas.{descends}
use Rattle.path_sets.proofs.ShiftLemmas.{with_bit, bit_here, bits_same}

module _ (ns : List BitNode) where
  -- the level of a number with a node is that node's
  pub level_is : (n : ℕ) (x : BitNode) → node_at ns n ≡ Some x → level_of ns n ≡ x.level
  level_is n x h = ap (λ o. option_map_or (λ (y : BitNode). y.level) o word_bits) h

  -- a number has a node, or it is 0 or 1, whose level is after the last
  pub kind : (n : ℕ) → IsNumber ns n → ((x : BitNode) × (node_at ns n ≡ Some x)) ⊎ ((n ≤ 1) × (level_of ns n ≡ word_bits))
  kind n inside = by (nat_lt n 2) refl
    where
      by : (b : Bool) → nat_lt n 2 ≡ b → ((x : BitNode) × (cond b None (slice_get ns (n - 2)) ≡ Some x))
          ⊎ ((n ≤ 1) × (option_map_or (λ (y : BitNode). y.level) (cond b None (slice_get ns (n - 2))) word_bits ≡ word_bits))
      by true e = let less = ltb-true n 2 e in inr (omega (arith, less), refl)
      by false e =
          let least = ltb-false n 2 e in
          elim (slice_get_cases ns (n - 2)).1 [
            | inl (x, less, at, _) ↦ inl (x, at)
            | inr (long, _) ↦ absurd (omega (arith, least, long, inside))
          ]

module _ (ns : List BitNode) (down : GoDown ns) (ordered : AreOrdered ns) where
  -- a child is a smaller number with a later level
  pub child_after : (n : ℕ) (x : BitNode) → IsNumber ns n → node_at ns n ≡ Some x → (b : Bool)
      → (x.level < level_of ns (cond b x.high x.low)) × IsNumber ns (cond b x.high x.low) × (cond b x.high x.low < n)
  child_after n x inside h b =
      let k = has_node ns n x h in
      let d = down (n - 2) x k.1 in
      let o = ordered (n - 2) x k.1 in
      let big = k.0 in
      by b big d o
    where
      by : (b : Bool) → 1 < n → (x.level < word_bits) × (x.low < n - 2 + 2) × (x.high < n - 2 + 2)
          → (x.level < level_of ns x.low) × (x.level < level_of ns x.high)
          → (x.level < level_of ns (cond b x.high x.low)) × IsNumber ns (cond b x.high x.low) × (cond b x.high x.low < n)
      by true big d o = (o.1, omega (arith, d, big, inside), omega (arith, d, big))
      by false big d o = (o.0, omega (arith, d, big, inside), omega (arith, d, big))

  -- a set depends on no bit before its number's level
  within' : (f n v w : ℕ) → n ≤ f → IsNumber ns n
      → ((i : ℕ) → level_of ns n ≤ i → i < word_bits → bit_of v i ≡ bit_of w i)
      → accepts ns n v ≡ accepts ns n w
  within' zero n v w fits inside same = at_leaf child ns n v (omega (arith, fits)) ∙ sym (at_leaf child ns n w (omega (arith, fits)))
  within' (suc f) n v w fits inside same = elim (kind ns n inside) [
    | inr (leaf, _) ↦ at_leaf child ns n v leaf ∙ sym (at_leaf child ns n w leaf)
    | inl (x, at) ↦
        let level = level_is ns n x at in
        let k = has_node ns n x at in
        let d = down (n - 2) x k.1 in
        let after = child_after n x inside at (bit_of w x.level) in
        goes_on child ns (descends ns down) n v x at
        ∙ ap (λ b. accepts ns (cond b x.high x.low) v) (same x.level (omega (arith, level)) d.0)
        ∙ within' f (child x w) v w (omega (arith, after, fits)) after.1
        (λ i least most. same i (omega (arith, least, after, level)) most)
        ∙ sym (goes_on child ns (descends ns down) n w x at)
  ]

  pub within : (n v w : ℕ) → IsNumber ns n → ((i : ℕ) → level_of ns n ≤ i → i < word_bits → bit_of v i ≡ bit_of w i)
      → accepts ns n v ≡ accepts ns n w
  within n v w = within' n n v w (omega arith)

  -- a child's set is that of the node after its bit
  pub half : (n : ℕ) (x : BitNode) → IsNumber ns n → node_at ns n ≡ Some x → (b u : ℕ) → b < 2
      → accepts ns n (with_bit x.level b u) ≡ accepts ns (cond (b == 1) x.high x.low) (with_bit x.level b u)
  half n x inside at b u small =
      goes_on child ns (descends ns down) n (with_bit x.level b u) x at
      ∙ ap (λ t. accepts ns (cond t x.high x.low) (with_bit x.level b u)) (bit_here x.level b u small)

  half_of : (n : ℕ) (x : BitNode) → IsNumber ns n → node_at ns n ≡ Some x → (b v : ℕ) → b < 2
      → accepts ns n (with_bit x.level b (v / 2 ^ (x.level + 1))) ≡ accepts ns (cond (b == 1) x.high x.low) v
  half_of n x inside at b v small =
      let after = child_after n x inside at (b == 1) in
      half n x inside at b (v / 2 ^ (x.level + 1)) small
      ∙ within (cond (b == 1) x.high x.low) (with_bit x.level b (v / 2 ^ (x.level + 1))) v after.1
      (λ i least most. bits_same x.level b v i small (omega (arith, least, after)))

  -- two numbers with one set
  abbrev pub Same : ℕ → ℕ → Type 0
  Same n m = (v : ℕ) → accepts ns n v ≡ accepts ns m v

  -- if one depends on no bit at or before a node's level, the node's children have one set
  children_same : (n m : ℕ) (x : BitNode) → IsNumber ns n → IsNumber ns m → node_at ns n ≡ Some x → x.level < level_of ns m
      → Same n m
      → Same x.low x.high
  children_same n m x inside inside' at deep same v =
      let w = λ (b : ℕ). with_bit x.level b (v / 2 ^ (x.level + 1)) in
      sym (half_of n x inside at 0 v (omega arith)) ∙ same (w 0)
      ∙ within m (w 0) (w 1) inside' (λ i least most. bits_same x.level 0 v i (omega arith) (omega (arith, least, deep))
      ∙ sym (bits_same x.level 1 v i (omega arith) (omega (arith, least, deep))))
      ∙ sym (same (w 1)) ∙ half_of n x inside at 1 v (omega arith)

  module _ (reduced : AreReduced ns) (once : StandOnce ns) where
    abbrev Found : ℕ → Type 0
    Found f = (n m : ℕ) → n ≤ f → m ≤ f → IsNumber ns n → IsNumber ns m → Same n m → n ≡ m

    -- so its level is not before the other's
    not_before : (f n m : ℕ) (x : BitNode) → Found f → n ≤ suc f → IsNumber ns n → IsNumber ns m → node_at ns n ≡ Some x
        → x.level < level_of ns m
        → Same n m
        → ⊥
    not_before f n m x found fits inside inside' at deep same =
        let k = has_node ns n x at in
        let low = child_after n x inside at false in
        let high = child_after n x inside at true in
        reduced (n - 2) x k.1 (found x.low x.high (omega (arith, low, fits)) (omega (arith, high, fits)) low.1 high.1
        (children_same n m x inside inside' at deep same))

    -- nodes of one level with one set have the same children, and so are one
    one_node : (f n m : ℕ) (x y : BitNode) → Found f → n ≤ suc f → m ≤ suc f → IsNumber ns n → IsNumber ns m
        → node_at ns n ≡ Some x
        → node_at ns m ≡ Some y
        → x.level ≡ y.level
        → Same n m
        → n ≡ m
    one_node f n m x y found fits fits' inside inside' at at' level same =
        let k = has_node ns n x at in
        let k' = has_node ns m y at' in
        let child_is : (b : ℕ) → b < 2 → cond (b == 1) x.high x.low ≡ cond (b == 1) y.high y.low =
        λ b small.
        let a = child_after n x inside at (b == 1) in
        let a' = child_after m y inside' at' (b == 1) in
        found (cond (b == 1) x.high x.low) (cond (b == 1) y.high y.low) (omega (arith, a, fits)) (omega (arith, a', fits')) a.1 a'.1
        (λ v. sym (half_of n x inside at b v small) ∙ same (with_bit x.level b (v / 2 ^ (x.level + 1)))
        ∙ ap (λ l. accepts ns m (with_bit l b (v / 2 ^ (l + 1)))) level ∙ half_of m y inside' at' b v small) in
        let low : x.low ≡ y.low = child_is 0 (omega arith) in
        let high : x.high ≡ y.high = child_is 1 (omega arith) in
        let one : y ≡ x = λ j. record { level = sym level j; low = sym low j; high = sym high j } in
        let is = once (n - 2) (m - 2) x k.1 (k'.1 ∙ ap Some one) in
        let big = k.0 in
        let big' = k'.0 in
        omega (arith, is, big, big')

    leaves : (n m : ℕ) → n ≤ 1 → m ≤ 1 → Same n m → n ≡ m
    leaves n m leaf leaf' same = by n m leaf leaf' (sym (at_leaf child ns n 0 leaf) ∙ same 0 ∙ at_leaf child ns m 0 leaf')
      where
        by : (n m : ℕ) → n ≤ 1 → m ≤ 1 → nat_eq n 1 ≡ nat_eq m 1 → n ≡ m
        by zero zero a b e = refl
        by zero (suc zero) a b e = absurd (true≢false (sym e))
        by (suc zero) zero a b e = absurd (true≢false e)
        by (suc zero) (suc zero) a b e = refl
        by (suc (suc n)) m a b e = absurd (omega (arith, a))
        by n (suc (suc m)) a b e = absurd (omega (arith, b))

    found_on : (f : ℕ) → Found f → Found (suc f)
    found_on f found n m fits fits' inside inside' same = elim (kind ns n inside) [
      | inr (leaf, far) ↦ elim (kind ns m inside') [
        | inr (leaf', far') ↦ leaves n m leaf leaf' same
        | inl (y, at') ↦
            let d = down (m - 2) y (has_node ns m y at').1 in
            absurd (not_before f m n y found fits' inside' inside at' (omega (arith, far, d)) (λ v. sym (same v)))
      ]
      | inl (x, at) ↦ elim (kind ns m inside') [
        | inr (leaf', far') ↦
            let d = down (n - 2) x (has_node ns n x at).1 in
            absurd (not_before f n m x found fits inside inside' at (omega (arith, far', d)) same)
        | inl (y, at') ↦
            let l = level_is ns n x at in
            let l' = level_is ns m y at' in
            elim (cases_lt x.level y.level) [
              | inl less ↦ absurd (not_before f n m x found fits inside inside' at (omega (arith, l', less)) same)
              | inr more ↦ elim (cases_lt y.level x.level) [
                | inl less ↦
                    absurd (not_before f m n y found fits' inside' inside at' (omega (arith, l, less)) (λ v. sym (same v)))
                | inr less ↦ one_node f n m x y found fits fits' inside inside' at at' (omega (arith, more, less)) same
              ]
            ]
      ]
    ]

    found_all : (f : ℕ) → Found f
    found_all zero = λ n m fits fits' inside inside' same. omega (arith, fits, fits')
    found_all (suc f) = found_on f (found_all f)

    pub canonical : (n m : ℕ) → IsNumber ns n → IsNumber ns m → Same n m → n ≡ m
    canonical n m = found_all (n + m) n m (omega arith) (omega arith)
