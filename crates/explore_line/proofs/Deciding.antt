-- A text reads as rounds, or as none.
use Rattle.std.proofs.Common.{◌<◌, ◌≡◌, ◌∙◌, ◌⊎◌, ℕ, [], ◌∷◌, Bool, true, false, suc, zero, arith, codes, inl, inr, length}
use Rattle.std.proofs.Common.{refl, sym, subst}
use Rattle.std.specs.Char.{digit_value}
use Rattle.std.specs.Str.{bytes_eq}
use Rattle.std.specs.Str.Parse.{AllDigits, IsNumeral, digits_value, without_leading_plus}
use Rattle.std.proofs.lemmas.Bool.{true≢false}
use Rattle.std.proofs.lemmas.Slice.Eq.{bytes_eq-Decides}
use Rattle.clap.specs.Words.{Text}
use Rattle.exploration.specs.declared.limits.Rounds.{Rounds}
use Rattle.exploration.specs.declared.limits.Rounds.TheVariants.{AtMost, All}
use Rattle.explore_line.specs.Line.{IsNumberFrom1, ReadsAs, greatest}

-- the fact holds, or it does not
abbrev Decided : Type 0 → Type 0
Decided P = P ⊎ ¬ P

both : {P Q : Type 0} → Decided P → Decided Q → Decided (P × Q)
both (inl p) (inl q) = inl (p, q)
both (inl p) (inr never) = inr (λ h. never h.1)
both (inr never) q = inr (λ h. never h.0)

below : (a b : ℕ) → Decided (a < b)
below a zero = inr (λ h. absurd (omega (arith, h)))
below zero (suc b) = inl (omega arith)
below (suc a) (suc b) = elim (below a b) [
  | inl h ↦ inl (omega (arith, h))
  | inr never ↦ inr (λ h. never (omega (arith, h)))
]

all_digits : (ds : Text) → Decided (AllDigits 10 ds)
all_digits [] = inl tt
all_digits (c ∷ cs) = both (below (digit_value c) 10) (all_digits cs)

numeral : (ds : Text) → Decided (IsNumeral 10 ds)
numeral ds = both (below 0 (length ds)) (all_digits ds)

-- a text reads as a number from 1 to the greatest, or as none
number : (t : Text) → ((n : ℕ) × IsNumberFrom1 t n) ⊎ ((n : ℕ) → ¬ IsNumberFrom1 t n)
number t =
    let ds = without_leading_plus t in
    let n = digits_value 10 ds in
    elim (both (numeral ds) (both (below 0 n) (below n (suc greatest)))) [
      | inl h ↦ inl (n, ((h.0, refl), omega (arith, h.1.0), omega (arith, h.1.1)))
      | inr never ↦ inr (λ m h. never (
        h.0.0,
        subst (λ (k : ℕ). (0 < k) × (k < suc greatest)) (sym h.0.1) (omega (arith, h.1), omega (arith, h.2)),
      ))
    ]

-- the text is the word, or it is not
all : (t : Text) → Decided (t ≡ codes "all")
all t = go (bytes_eq t (codes "all")) refl
  where
    go : (b : Bool) → bytes_eq t (codes "all") ≡ b → Decided (t ≡ codes "all")
    go true e = inl ((bytes_eq-Decides t (codes "all")).0 e)
    go false e = inr (λ h. absurd (true≢false (sym ((bytes_eq-Decides t (codes "all")).1 h) ∙ e)))

-- if a text is neither the word nor such a number, it reads as no rounds
pub neither : (t : Text) → ¬ (t ≡ codes "all") → ((n : ℕ) → ¬ IsNumberFrom1 t n) → (rounds : Rounds) → ¬ ReadsAs t rounds
neither t word number All h = word h
neither t word number (AtMost n) h = number n h

pub rounds : (t : Text) → ((r : Rounds) × ReadsAs t r) ⊎ ((r : Rounds) → ¬ ReadsAs t r)
rounds t = go (all t) (number t)
  where
    go : Decided (t ≡ codes "all") → ((n : ℕ) × IsNumberFrom1 t n) ⊎ ((n : ℕ) → ¬ IsNumberFrom1 t n)
        → ((r : Rounds) × ReadsAs t r) ⊎ ((r : Rounds) → ¬ ReadsAs t r)
    go (inl word) number = inl (All, word)
    go (inr word) (inl h) = inl (AtMost h.0, h.1)
    go (inr word) (inr never) = inr (neither t word never)
