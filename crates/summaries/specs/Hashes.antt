-- Which pairs are found by signatures, and which by hashes.
use Rattle.std.specs.Prelude.{◌≡◌, ◌<◌, ◌+◌, ℕ, Bool, true, nat_eq, ◌&&◌, if◌then◌else◌, List, Some, cond, min, slice_get}
use Rattle.std.specs.List.{count_by, list_any}
use Rattle.std.specs.Map.{keys_of}
use Rattle.flow_graph.specs.declared.exit.Exit.{Exit}
use Rattle.summaries.specs.declared.known_entry.KnownEntry.{KnownEntry}
use Rattle.summaries.specs.Links.{owners}
use Rattle.summaries.specs.Signatures.{MayHave}

-- whether two pairs that are kept are the same
abbrev pub kept_eq : ℕ × Exit → ℕ × Exit → Bool
kept_eq x y = nat_eq x.0 y.0
    && (nat_eq (if x.1.result then 1 else 0) (if y.1.result then 1 else 0) && nat_eq x.1.globals y.1.globals)

-- whether a pair is one of these
abbrev pub is_one_of : List (ℕ × Exit) → ℕ × Exit → Bool
is_one_of kept pair = list_any (kept_eq pair) kept

-- so many pairs of an entry are found by its signature and its links
abbrev pub few : ℕ
few = 64

-- each entry has a signature that may have each exit of its pairs
abbrev pub AreSeen : List (ℕ × KnownEntry) → List ((ℕ × Exit) × ℕ) → Type 0
AreSeen entries pairs = (owner entry : ℕ) (known : KnownEntry) (left : Exit) → slice_get entries owner ≡ Some (entry, known)
    → is_one_of (keys_of pairs) (owner, left) ≡ true → MayHave known.seen left

-- all of these pairs are kept
abbrev pub AreReal : List (ℕ × Exit) → List (ℕ × Exit) → Type 0
AreReal many kept = (pair : ℕ × Exit) → is_one_of many pair ≡ true → is_one_of kept pair ≡ true

-- all pairs of this owner that are kept are among these
abbrev pub HasAllOf : List (ℕ × Exit) → List (ℕ × Exit) → ℕ → Type 0
HasAllOf many kept owner = (left : Exit) → is_one_of kept (owner, left) ≡ true → is_one_of many (owner, left) ≡ true

-- all pairs of each entry that has more than a few are among these
abbrev pub AreHashed : List (ℕ × KnownEntry) → List (ℕ × Exit) → List ((ℕ × Exit) × ℕ) → Type 0
AreHashed entries many pairs = (owner entry : ℕ) (known : KnownEntry) → slice_get entries owner ≡ Some (entry, known)
    → few < known.count → HasAllOf many (keys_of pairs) owner

-- each entry has the number of its pairs, as far as one more than a few
abbrev pub AreCounted : List (ℕ × KnownEntry) → List ((ℕ × Exit) × ℕ) → Type 0
AreCounted entries pairs = (owner entry : ℕ) (known : KnownEntry) → slice_get entries owner ≡ Some (entry, known)
    → known.count ≡ min (count_by (nat_eq owner) (owners pairs)) (few + 1)

-- one pair is there too
abbrev pub IsHashedToo : ℕ × Exit → List (ℕ × Exit) → List (ℕ × Exit) → Type 0
IsHashedToo pair old new = (other : ℕ × Exit) → is_one_of new other ≡ cond (kept_eq pair other) true (is_one_of old other)

-- The pairs that are found by their hashes stay, and all of them are kept.
pub record IsLookedUp (kept old new : List (ℕ × Exit)) : Type 0 where
  pub stay : (pair : ℕ × Exit) → is_one_of old pair ≡ true → is_one_of new pair ≡ true
  pub real : AreReal new kept
