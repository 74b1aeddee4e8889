-- Why texts are refused.
use Rattle.std.specs.Prelude.{◌≡◌, ◌⊎◌, ℕ, List, Some}
use Rattle.language.specs.Tree.{Tree}
use Rattle.language.specs.Resolve.{meaning_of}
use Rattle.language.specs.Rounds as runs
use Rattle.syntax.specs.Text as text
use Rattle.syntax.specs.Text.{Text}
use Rattle.syntax.specs.declared.fault.ReadFault.TheVariants as read
use Rattle.checked.specs.Checked.{IsChecked, IsFirstFault}
use Rattle.checked.specs.declared.fault.ScopeFault.{ScopeFault}
use Rattle.checked.specs.declared.fault.ScopeFault.TheVariants as scope
use Rattle.resolved.specs.Narrow.{AllNarrow}
use Rattle.source_graphs.specs.Wide.{IsFirstWide}
use Rattle.source_graphs.specs.declared.width.WideProcedure.{WideProcedure}
use Rattle.exploration.specs.declared.report.NoVerdict.{NoVerdict}
use Rattle.exploration.specs.declared.report.NoVerdict.TheVariants as cause
use Rattle.explorer.specs.declared.refusal.Refusal.{Refusal}
use Rattle.explorer.specs.declared.refusal.Refusal.TheVariants.{Unread, Unchecked, TooWide, Memory, Limit}

-- the text is that of this tree, in which no fault of scopes stands
abbrev pub IsProgramOf : List ℕ → Tree → Type 0
IsProgramOf bytes tree = Text bytes tree × IsChecked tree

-- The text is that of a checked tree, and this is its first procedure that has more than 128 places.
abbrev pub IsWide : List ℕ → WideProcedure → Type 0
IsWide bytes wide = (t : Tree) × IsProgramOf bytes t × IsFirstWide t (Some wide)

-- The text is that of a checked tree, whose procedures have at most 128 places each.
abbrev pub HasProgram : List ℕ → Type 0
HasProgram bytes = (t : Tree) × IsProgramOf bytes t × AllNarrow t

-- The text is not a program of the grammar, or a fault of scopes stands in it: there is a place at which it is
-- refused.
abbrev pub HasPlace : List ℕ → Type 0
HasPlace bytes =
    ((at : ℕ) × text.ReadFaultStands (read.Syntax at) bytes)
    ⊎ ((t : Tree) × (fault : ScopeFault) × Text bytes t × IsFirstFault t fault)

-- The text is that of a checked tree, and no run of this number of rounds of it fails.
abbrev pub IsSafeFor : List ℕ → ℕ → Type 0
IsSafeFor bytes rounds = (t : Tree) × IsProgramOf bytes t × AllNarrow t × (runs.Unsafe (meaning_of t) rounds → ⊥)

-- The refusal stands: the text is not read for this fault; or it is the text of a program in which this is the first
-- fault of scopes; or of a checked program of which this is the first procedure that is too wide; or of one that is not
-- too wide, and no run of the number of rounds that is said fails. While a text is read, memory may run out at any
-- point, and so it may while scopes are checked. Later it runs out only while turns are explored, or for the line of a
-- refusal that names an offset.
abbrev pub RefusalStands : List ℕ → Refusal → Type 0
RefusalStands bytes (Unread fault) = text.ReadFaultStands fault bytes
RefusalStands bytes (Unchecked fault) =
    (t : Tree) × Text bytes t × ((fault ≡ scope.Memory) ⊎ IsFirstFault t fault)
RefusalStands bytes (TooWide wide) = IsWide bytes wide
RefusalStands bytes Memory = HasProgram bytes ⊎ HasPlace bytes
RefusalStands bytes (Limit rounds) = IsSafeFor bytes rounds

-- A cause for which a program with this tree gets no report is told as this refusal: as the one with its name, and, if
-- some procedure is too wide, with the first that is.
abbrev pub IsToldAs : Tree → NoVerdict → Refusal → Type 0
IsToldAs tree cause.TooWide why = (wide : WideProcedure) × (why ≡ TooWide wide) × IsFirstWide tree (Some wide)
IsToldAs tree cause.Memory why = why ≡ Memory
IsToldAs tree (cause.Limit rounds) why = why ≡ Limit rounds
