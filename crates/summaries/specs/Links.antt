-- Links that lead through the pairs of each entry, from the last to the first: a link is 0, or one more than a place.
use Rattle.std.specs.Prelude.{◌≡◌, ◌<◌, ◌+◌, ℕ, List, Some, length, map, slice_get}
use Rattle.std.specs.Map.{keys_of}
use Rattle.flow_graph.specs.declared.exit.Exit.{Exit}
use Rattle.summaries.specs.declared.known_entry.KnownEntry.{KnownEntry}

-- the index of the entry of each pair
abbrev pub owners : List ((ℕ × Exit) × ℕ) → List ℕ
owners pairs = map (λ kept. kept.0) (keys_of pairs)

-- the link leads to the last of the places before the bound that this owner has
abbrev pub IsLink : List ℕ → ℕ → ℕ → ℕ → Type 0
IsLink owned owner bound link =
    ((at : ℕ) → at < bound → slice_get owned at ≡ Some owner → at < link)
    × ((at : ℕ) → link ≡ at + 1 → (at < bound) × (slice_get owned at ≡ Some owner))

-- each pair is of an entry that is there
abbrev pub AreOwned : List (ℕ × KnownEntry) → List ((ℕ × Exit) × ℕ) → Type 0
AreOwned entries pairs = (at owner : ℕ) → slice_get (owners pairs) at ≡ Some owner → owner < length entries

-- each entry has the link to its last pair
abbrev pub AreLastLinks : List (ℕ × KnownEntry) → List ((ℕ × Exit) × ℕ) → Type 0
AreLastLinks entries pairs = (owner entry : ℕ) (known : KnownEntry) → slice_get entries owner ≡ Some (entry, known)
    → IsLink (owners pairs) owner (length pairs) known.last

-- each pair has the link to the pair before it of the same entry
abbrev pub AreLinked : List ((ℕ × Exit) × ℕ) → Type 0
AreLinked pairs = (at owner : ℕ) (left : Exit) (link : ℕ) → slice_get pairs at ≡ Some ((owner, left), link)
    → IsLink (owners pairs) owner at link

-- the entries, each with the link to its last pair
abbrev pub last_links : List (ℕ × KnownEntry) → List (ℕ × ℕ)
last_links entries = map (λ e. (e.0, e.1.last)) entries
