-- The lines that say why texts are refused, and their statuses.
use Rattle.std.specs.Prelude.{⊤, ℕ, List, ◌++◌, codes}
use Rattle.std.specs.Fmt.{decimal}
use Rattle.syntax.specs.declared.fault.ReadFault.{ReadFault}
use Rattle.syntax.specs.declared.fault.ReadFault.TheVariants as read
use Rattle.checked.specs.declared.fault.ScopeFault.{ScopeFault}
use Rattle.checked.specs.declared.fault.ScopeFault.TheVariants as scope
use Rattle.refusals.specs.declared.refusal.Refusal.{Refusal}
use Rattle.refusals.specs.declared.refusal.Refusal.TheVariants.{Unread, Unchecked, TooWide, EdgeLimit, Memory, NoWorker, Spent}

-- the line for lack of memory
abbrev pub memory_line : List ℕ
memory_line = codes "no verdict: memory\n"

-- the line of a fault with these words, at an offset
abbrev pub line_at : List ℕ → ℕ → List ℕ
line_at words at = codes "refused: " ++ (words ++ (codes " at " ++ (decimal at ++ codes "\n")))

-- the line of a text that is not read
abbrev pub unread_line : ReadFault → List ℕ
unread_line read.TooLong = codes "refused: 1 too long\n"
unread_line read.NotAscii = codes "refused: 2 not ascii\n"
unread_line (read.Syntax at) = line_at (codes "3 syntax") at
unread_line read.TooDeep = codes "refused: 4 too deep\n"
unread_line read.Memory = memory_line

-- the line of a program that has a fault of scopes
abbrev pub unchecked_line : ScopeFault → List ℕ
unchecked_line (scope.Undeclared at) = line_at (codes "6 undeclared") at
unchecked_line (scope.DeclaredTwice at) = line_at (codes "7 declared twice") at
unchecked_line (scope.WrongCount at) = line_at (codes "8 wrong count") at
unchecked_line (scope.BadThread at) = line_at (codes "9 bad thread") at
unchecked_line (scope.BadLabel at) = line_at (codes "10 bad label") at
unchecked_line (scope.Reserved at) = line_at (codes "11 reserved") at
unchecked_line (scope.TooMany at) = line_at (codes "12 too many") at
unchecked_line scope.Memory = memory_line

-- the line that says why a text gets no verdict
abbrev pub line_of : Refusal → List ℕ
line_of (Unread fault) = unread_line fault
line_of (Unchecked fault) = unchecked_line fault
line_of (TooWide wide) = codes "refused: 14 too wide\n"
line_of (EdgeLimit at) = codes "no verdict: edge limit\n"
line_of Memory = memory_line
line_of NoWorker = codes "no verdict: no worker\n"
line_of Spent = codes "no verdict: spent\n"

-- The line names an offset, and is built when it is needed, which takes memory. Every other line is fixed, and takes
-- none.
abbrev pub NamesOffset : Refusal → Type 0
NamesOffset (Unread (read.Syntax at)) = ⊤
NamesOffset (Unread fault) = ⊥
NamesOffset (Unchecked scope.Memory) = ⊥
NamesOffset (Unchecked fault) = ⊤
NamesOffset (TooWide wide) = ⊥
NamesOffset (EdgeLimit at) = ⊥
NamesOffset Memory = ⊥
NamesOffset NoWorker = ⊥
NamesOffset Spent = ⊥

-- 2 if the text is at fault, 3 if the edge limit was passed, or if memory, threads or calls ran out
abbrev pub status_of : Refusal → ℕ
status_of (Unread read.Memory) = 3
status_of (Unread fault) = 2
status_of (Unchecked scope.Memory) = 3
status_of (Unchecked fault) = 2
status_of (TooWide wide) = 2
status_of (EdgeLimit at) = 3
status_of Memory = 3
status_of NoWorker = 3
status_of Spent = 3
