-- Valuations in two halves, as they go into the diagrams.
use Rattle.std.specs.Prelude.{◌≡◌, ◌+◌, ◌*◌, ◌/◌, ◌%◌, ◌^◌, ℕ}
use Rattle.path_sets.specs.declared.diagrams.insertion.Insertion.{Insertion}

-- how many levels a half has, two bits at each
abbrev pub half_levels : ℕ
half_levels = 32

-- the valuation of an insertion, of which it has the low 64 bits and those above
abbrev pub valuation_of : Insertion → ℕ
valuation_of insertion = insertion.low + 2 ^ 64 * insertion.high

-- something is left of a valuation at a level, and its two low bits are these
abbrev pub ContinuesBy : ℕ → ℕ → ℕ → Type 0
ContinuesBy valuation level bits = (valuation / 4 ^ level % 4 ≡ bits % 4) × (valuation / 4 ^ level ≡ 0 → ⊥)
