-- Texts that are looked up.
use Rattle.std.specs.Prelude.{◌≡◌, ℕ, ◌⊎◌, true, List}
use Rattle.std.specs.Str.{bytes_eq}
use Rattle.indexmap.specs.IndexSet.{IndexSet, contains_by}
use Rattle.language.specs.Tree.{Name}
use Rattle.language.specs.Resolve.{is_declared}
use Rattle.checked.specs.Faults.{AnyOf, Repeated}
use denote.Ref.{Bor}

-- the texts of the set are those of the names
abbrev pub AreTexts : {S : Type 0} → IndexSet (Bor (List ℕ)) S → List Name → Type 0
AreTexts set ns = (text : List ℕ) → contains_by (λ k. bytes_eq text k.now) set ≡ is_declared text ns

-- a name at the offset has the text of one before it, if some names come before the list
abbrev pub IsAgain : List Name → List Name → ℕ → Type 0
IsAgain before ns offset = AnyOf (λ (y : Name). (y.at ≡ offset) × (is_declared y.text before ≡ true)) ns ⊎ Repeated ns offset
