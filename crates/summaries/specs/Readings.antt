-- The pairs of a table, entry by entry.
use Rattle.std.specs.Prelude.{◌≡◌, ◌⊎◌, ◌↔◌, ℕ, List, Some}
use Rattle.language.specs.Lists.{Member}
use Rattle.summaries.specs.declared.exits.Exits.{Exits}
use Rattle.summaries.specs.declared.pair.Pair.{Pair}
use Rattle.summaries.specs.Exits.{pair_at}

module _ {Alloc : Type 0} (exits : Exits Alloc) where
  -- it is a pair of this entry, and has a place
  abbrev pub IsPairOf : ℕ → Pair → Type 0
  IsPairOf entry found = (found.a ≡ entry) × ((at : ℕ) × (pair_at exits at ≡ Some found))

  -- the pairs of this entry are there beside the others
  abbrev pub AddsPairsOf : ℕ → List Pair → List Pair → Type 0
  AddsPairsOf entry old new = (found : Pair) → Member found new ↔ (Member found old ⊎ IsPairOf entry found)
