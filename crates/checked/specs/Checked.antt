-- Which faults stand in a tree, and which of them is returned.
use Rattle.std.specs.Prelude.{◌≡◌, ℕ, ◌<◌, ◌≤◌, ◌⊎◌}
use Rattle.language.specs.Tree.{Tree}
use Rattle.checked.specs.declared.fault.ScopeFault.{ScopeFault}
use Rattle.checked.specs.declared.fault.ScopeFault.TheVariants as fault
use Rattle.checked.specs.Faults.{Undeclared, DeclaredTwice, WrongCount, BadThread, BadLabel, Reserved, TooMany}

-- the fault stands in the tree at its place; lack of memory is not a fault of a tree
abbrev pub FaultStands : Tree → ScopeFault → Type 0
FaultStands tree (fault.Undeclared at) = Undeclared tree at
FaultStands tree (fault.DeclaredTwice at) = DeclaredTwice tree at
FaultStands tree (fault.WrongCount at) = WrongCount tree at
FaultStands tree (fault.BadThread at) = BadThread tree at
FaultStands tree (fault.BadLabel at) = BadLabel tree at
FaultStands tree (fault.Reserved at) = Reserved tree at
FaultStands tree (fault.TooMany at) = TooMany tree at
FaultStands tree fault.Memory = ⊥

-- the number of a fault
abbrev pub number : ScopeFault → ℕ
number (fault.Undeclared at) = 6
number (fault.DeclaredTwice at) = 7
number (fault.WrongCount at) = 8
number (fault.BadThread at) = 9
number (fault.BadLabel at) = 10
number (fault.Reserved at) = 11
number (fault.TooMany at) = 12
number fault.Memory = 13

-- the offset of a fault
abbrev pub offset : ScopeFault → ℕ
offset (fault.Undeclared at) = at
offset (fault.DeclaredTwice at) = at
offset (fault.WrongCount at) = at
offset (fault.BadThread at) = at
offset (fault.BadLabel at) = at
offset (fault.Reserved at) = at
offset (fault.TooMany at) = at
offset fault.Memory = 0

-- one fault is returned before another: its offset is less, or it is the same and its number is not greater
abbrev pub ComesFirst : ScopeFault → ScopeFault → Type 0
ComesFirst first other = (offset first < offset other) ⊎ ((offset first ≡ offset other) × (number first ≤ number other))

-- the fault stands, and it comes before every other that does
abbrev pub IsFirstFault : Tree → ScopeFault → Type 0
IsFirstFault tree first = FaultStands tree first × ((g : ScopeFault) → FaultStands tree g → ComesFirst first g)

-- no fault of scopes stands in the tree
abbrev pub IsChecked : Tree → Type 0
IsChecked tree = (f : ScopeFault) → FaultStands tree f → ⊥
