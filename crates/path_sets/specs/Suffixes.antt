-- The inner nodes of the reduced ordered diagram of a set of valuations, by the set alone (Bryant 1986). A prefix gives
-- the bits of a valuation below a level, bit 0 first, and a suffix those from the level on.
use Rattle.std.specs.Prelude.{◌≡◌, ℕ, ◌+◌, ◌*◌, ◌^◌, ◌<◌, ◌↔◌, List, [], ◌∷◌, length}
use Rattle.language.specs.Lists.{Member}

-- a prefix, whose bits are below 2 ^ level
pub record Prefix : Type 0 where
  pub level : ℕ
  pub bits : ℕ

-- the prefix of these two
abbrev pub prefix : ℕ → ℕ → Prefix
prefix level bits = record { level = level; bits = bits }

-- after two prefixes of a level the set has the same suffixes
abbrev pub SameSuffixes : (ℕ → Type 0) → ℕ → ℕ → ℕ → Type 0
SameSuffixes S level one other = (u : ℕ) → S (one + u * 2 ^ level) ↔ S (other + u * 2 ^ level)

-- which suffixes the set has after a prefix depends on the bit of the level: after a 0 there they are not those after a
-- 1
abbrev pub Depends : (ℕ → Type 0) → ℕ → ℕ → Type 0
Depends S level bits = SameSuffixes S (level + 1) bits (bits + 2 ^ level) → ⊥

-- no two of these prefixes have one level and the same suffixes
abbrev pub Apart : (ℕ → Type 0) → List Prefix → Type 0
Apart S [] = Unit {0}
Apart S (x ∷ xs) = ((y : Prefix) → Member y xs → y.level ≡ x.level → SameSuffixes S x.level x.bits y.bits → ⊥) × Apart S xs

-- Of all prefixes whose suffixes depend on the bit of their level these are one for each set of suffixes.
pub record AreNodes (width : ℕ) (S : ℕ → Type 0) (prefixes : List Prefix) : Type 0 where
  pub each : (x : Prefix) → Member x prefixes → (x.level < width) × (x.bits < 2 ^ x.level) × Depends S x.level x.bits
  pub all : (level p : ℕ) → level < width → p < 2 ^ level → Depends S level p
      → (q : ℕ) × Member (prefix level q) prefixes × SameSuffixes S level p q
  pub apart : Apart S prefixes

-- The diagram of a set of valuations of `width` bits has `count` inner nodes: one for each level and each set of
-- suffixes that depends on the bit of the level.
pub record HasNodes (width : ℕ) (S : ℕ → Type 0) (count : ℕ) : Type 0 where
  pub prefixes : List Prefix
  pub nodes : AreNodes width S prefixes
  pub counted : count ≡ length prefixes
