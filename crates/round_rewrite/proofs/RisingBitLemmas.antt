-- The bits of the round as they are written: from the highest down, each with its part of the next round.
use Rattle.std.proofs.Common.{◌≡◌, ℕ, zero, suc, ◌+◌, List, [], ◌∷◌, ◌++◌, map, reverse, refl, sym, ◌∙◌, ap, arith, append_assoc}
use Rattle.std.proofs.lemmas.List.{map-append, reverse-append}
use Rattle.language.specs.Tree.{var, and, xor, two, value}
use Rattle.language.specs.Sequential.{numbers}
use Rattle.round_rewrite.specs.Table.{added, raised}
use Rattle.round_rewrite.specs.Names.{bit_name, bit_names}
use Rattle.round_rewrite.specs.Writing.{carried, raised_bit}
use Rattle.round_rewrite.proofs.PushLemmas.{numbers_last}

added_bits : (j m : ℕ)
    → added (carried j) (map bit_name (numbers (suc j) m)) ≡ map (λ i. value (raised_bit i)) (numbers (suc j) m)
added_bits j zero = refl
added_bits j (suc m) = ap (λ rs. value (raised_bit (suc j)) ∷ rs) (added_bits (suc j) m)

-- what is added to the bits, bit by bit
pub raised_bits : (m : ℕ) → raised (bit_names m) ≡ map (λ j. value (raised_bit j)) (numbers 0 m)
raised_bits zero = refl
raised_bits (suc m) = ap (λ rs. value (raised_bit 0) ∷ rs) (added_bits 0 m)

module _ {B : Type 0} (f : ℕ → B) where
  -- the highest comes first
  highest_first : (k : ℕ) → reverse (map f (numbers 0 (suc k))) ≡ f k ∷ reverse (map f (numbers 0 k))
  highest_first k =
      let last : ℕ = 0 + k in
      ap (λ ns. reverse (map f ns)) (numbers_last 0 k)
      ∙ (ap reverse (map-append f (numbers 0 k) (last ∷ []))
      ∙ (reverse-append (map f (numbers 0 k)) (f last ∷ [])
      ∙ ap (λ n. f n ∷ reverse (map f (numbers 0 k))) (let z : 0 + k ≡ k = omega arith in z)))

  -- one more is pushed, from the highest down
  pub pushed_down : {A : Type 0} (view : A → B) (items : List A) (item : A) (whole : List B) (k i : ℕ) → i ≡ suc k
      → map view items ++ reverse (map f (numbers 0 i)) ≡ whole → view item ≡ f k
      → map view (items ++ item ∷ []) ++ reverse (map f (numbers 0 k)) ≡ whole
  pushed_down view items item whole k i e so seen =
      let others : List B = reverse (map f (numbers 0 k)) in
      ap (λ xs. xs ++ others) (map-append view items (item ∷ []))
      ∙ (append_assoc (map view items) (view item ∷ []) others
      ∙ (ap (λ x. map view items ++ x ∷ others) seen
      ∙ (ap (λ xs. map view items ++ xs) (sym (highest_first k))
      ∙ (ap (λ n. map view items ++ reverse (map f (numbers 0 n))) (sym e) ∙ so))))

-- what is carried out of one bit more
pub carried_next : (n m : ℕ) → n ≡ suc m → two and (var (bit_name n)) (carried m) ≡ carried n
carried_next n m e = ap (λ k. two and (var (bit_name k)) (carried m)) e ∙ sym (ap carried e)

-- a bit of the next round, by what is carried to it
pub raised_next : (n m : ℕ) → n ≡ suc m → two xor (var (bit_name n)) (carried m) ≡ raised_bit n
raised_next n m e = ap (λ k. two xor (var (bit_name k)) (carried m)) e ∙ sym (ap raised_bit e)
