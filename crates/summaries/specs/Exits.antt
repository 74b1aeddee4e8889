-- What is left, by the valuation on entry, and the places where it is kept.
use Rattle.std.specs.Prelude.{◌≡◌, ◌⊎◌, ◌<◌, ◌+◌, ℕ, List, Option, None, Some, length, slice_get}
use Rattle.std.specs.Option.{option_map}
use Rattle.std.specs.Map.{keys_of}
use Rattle.indexmap.specs.IndexMap.{keys}
use Rattle.flow_graph.specs.declared.exit.Exit.{Exit}
use Rattle.summaries.specs.declared.pair.Pair.{Pair}
use Rattle.summaries.specs.declared.exits.Exits.{Exits}

-- this is left if the entry valuation was this
abbrev pub pair : ℕ → Exit → Pair
pair entry exit = record { a = entry; b = exit.globals; r = exit.result }

-- no pair has two places
abbrev pub ArePairsOnce : (ℕ → Option Pair) → Type 0
ArePairsOnce pairs = (x y : ℕ) (found : Pair) → pairs x ≡ Some found → pairs y ≡ Some found → x ≡ y

-- The link, which is 0 or one more than a place, leads to the last of the entry's pairs at places before this one.
pub record LeadsTo (pairs : ℕ → Option Pair) (entry before link : ℕ) : Type 0 where
  pub there : (at : ℕ) → link ≡ at + 1 → (at < before) × ((exit : Exit) × (pairs at ≡ Some (pair entry exit)))
  pub rest : (at : ℕ) (exit : Exit) → at < before → pairs at ≡ Some (pair entry exit) → at < link

-- the pair of what is kept, by the index of its entry among these
abbrev pub pair_among : List ℕ → Option (ℕ × Exit) → Option Pair
pair_among entries None = None
pair_among entries (Some kept) = option_map (λ entry. pair entry kept.1) (slice_get entries kept.0)

module _ {Alloc : Type 0} where
  -- how many pairs there are
  abbrev pub count_of : Exits Alloc → ℕ
  count_of exits = length exits.pairs.items

  -- the pair at a place
  abbrev pub pair_at : Exits Alloc → ℕ → Option Pair
  pair_at exits at = pair_among (keys exits.by_entry) (slice_get (keys_of exits.pairs.items) at)

  -- each place has the pair that it had, if any
  abbrev pub AllPairsStay : Exits Alloc → Exits Alloc → Type 0
  AllPairsStay old new = (at : ℕ) → pair_at new at ≡ pair_at old at

  -- The pair, which had no place, is at this one, which had none; each other place has what it had.
  pub record IsPairAdded (added : Pair) (here : ℕ) (old new : Exits Alloc) : Type 0 where
    pub apart : (at : ℕ) → pair_at old at ≡ Some added → ⊥
    pub free : pair_at old here ≡ None
    pub there : pair_at new here ≡ Some added
    pub others : (at : ℕ) → (at ≡ here) ⊎ (pair_at new at ≡ pair_at old at)
