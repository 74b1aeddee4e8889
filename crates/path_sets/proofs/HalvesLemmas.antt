-- What is left of a valuation in two halves.
use Rattle.std.proofs.Common.{◌≡◌, ℕ, zero, suc, ◌+◌, ◌-◌, ◌*◌, ◌/◌, ◌%◌, ◌^◌, ◌<◌, ◌≤◌, refl}
use Rattle.std.proofs.Common.{sym, ap, ◌∙◌, arith}
use Rattle.std.proofs.lemmas.Nat.{pow-add, pow_pos}
use Rattle.std.proofs.Math.Nat.{add-mul-div_left, div-div-eq-div-mul}
use Rattle.path_sets.specs.Halves.{ContinuesBy}
use Rattle.path_sets.proofs.ShiftLemmas.{four_pow}

-- four times a product, in another order
four_first : (m q h : ℕ) → m * (q * 4) * h ≡ m * (4 * (q * h))
four_first m q h = grind arith

-- at a level of the low half, the high one is above what is left of the low one
pub low_rest : (low high l : ℕ) → l < 32 → (low + 2 ^ 64 * high) / 4 ^ l ≡ low / 2 ^ (2 * l) + 4 * (2 ^ (2 * (31 - l)) * high)
low_rest low high l less =
    let q = 2 ^ (2 * (31 - l)) in
    let sum : 64 ≡ 2 * l + (2 * (31 - l) + 2) = omega (arith, less) in
    let parts : 2 ^ 64 ≡ 2 ^ (2 * l) * (q * 4) =
    ap (λ k. 2 ^ k) sum ∙ pow-add 2 (2 * l) (2 * (31 - l) + 2) ∙ ap (λ k. 2 ^ (2 * l) * k) (pow-add 2 (2 * (31 - l)) 2) in
    let some = pow_pos (2 * l) in
    ap (λ k. (low + k * high) / 4 ^ l) parts ∙ ap (λ k. (low + k) / 4 ^ l) (four_first (2 ^ (2 * l)) q high)
    ∙ ap (λ k. (low + 2 ^ (2 * l) * (4 * (q * high))) / k) (four_pow l)
    ∙ add-mul-div_left low (4 * (q * high)) {y = 2 ^ (2 * l)} some

-- at a level of the high half there is nothing of the low one
pub high_rest : (low high l : ℕ) → low < 2 ^ 64 → 32 ≤ l → (low + 2 ^ 64 * high) / 4 ^ l ≡ high / 2 ^ (2 * (l - 32))
high_rest low high l small least =
    let sum : 2 * l ≡ 64 + 2 * (l - 32) = omega (arith, least) in
    let above : (low + 2 ^ 64 * high) / 2 ^ 64 ≡ high = omega (arith, small) in
    ap (λ k. (low + 2 ^ 64 * high) / k) (four_pow l ∙ ap (λ k. 2 ^ k) sum ∙ pow-add 2 64 (2 * (l - 32)))
    ∙ sym (div-div-eq-div-mul (low + 2 ^ 64 * high) (2 ^ 64) (2 ^ (2 * (l - 32)))) ∙ ap (λ k. k / 2 ^ (2 * (l - 32))) above

nothing_times : (q h : ℕ) → zero < q → q * h ≡ 0 → h ≡ 0
nothing_times q zero some none = refl
nothing_times q (suc h) some none = absurd (omega (arith, some, none, grown))
  where
    grown : q * suc h ≡ q * h + q
    grown = grind arith

module _ (low high l : ℕ) (less : l < 32) where
  -- if something is left of the low half, or the high one is there, the valuation continues by bits of the low half
  pub low_goes : (low / 2 ^ (2 * l) ≡ 0 → high ≡ 0 → ⊥) → ContinuesBy (low + 2 ^ 64 * high) l (low / 2 ^ (2 * l) % 4)
  low_goes some =
      let is = low_rest low high l less in
      let above = 2 ^ (2 * (31 - l)) * high in (
        omega (arith, is),
        λ none.
            let rest : low / 2 ^ (2 * l) ≡ 0 = omega (arith, is, none) in
            let more : above ≡ 0 = omega (arith, is, none) in
            some rest (nothing_times (2 ^ (2 * (31 - l))) high (pow_pos (2 * (31 - l))) more),
      )

  -- else nothing is left
  pub low_ends : low / 2 ^ (2 * l) ≡ 0 → high ≡ 0 → (low + 2 ^ 64 * high) / 4 ^ l ≡ 0
  low_ends rest none =
      let is = low_rest low high l less in
      let more : 2 ^ (2 * (31 - l)) * high ≡ 0 = ap (λ h. 2 ^ (2 * (31 - l)) * h) none ∙ omega arith in
      omega (arith, is, rest, more)

module _ (low high l : ℕ) (small : low < 2 ^ 64) (least : 32 ≤ l) where
  -- from there on it continues by the bits of the high half
  pub high_goes : (high / 2 ^ (2 * (l - 32)) ≡ 0 → ⊥) → ContinuesBy (low + 2 ^ 64 * high) l (high / 2 ^ (2 * (l - 32)) % 4)
  high_goes some =
      let is = high_rest low high l small least in
      (omega (arith, is), λ none. some (sym is ∙ none))
