-- The lines of replies, and their statuses.
use Rattle.std.specs.Prelude.{⊤, ℕ, Bool, true, false, List, [], ◌++◌, codes}
use Rattle.std.specs.Fmt.{decimal}
use Rattle.syntax.specs.declared.fault.ReadFault.TheVariants as read
use Rattle.checked.specs.declared.fault.ScopeFault.TheVariants as scope
use Rattle.refusals.specs.Lines.{memory_line, unchecked_line, unread_line}
use Rattle.exploration.specs.declared.report.Answer.{Answer}
use Rattle.exploration.specs.declared.report.Answer.TheVariants.{Safe, Unsafe}
use Rattle.exploration.specs.declared.report.Report.{Report}
use Rattle.explorer.specs.declared.refusal.Refusal.{Refusal}
use Rattle.explorer.specs.declared.refusal.Refusal.TheVariants.{Unread, Unchecked, TooWide, Memory, Limit}

-- the line that says why a text gets no verdict
abbrev pub line_of : Refusal → List ℕ
line_of (Unread fault) = unread_line fault
line_of (Unchecked fault) = unchecked_line fault
line_of (TooWide wide) = codes "refused: 14 too wide\n"
line_of Memory = memory_line
line_of (Limit rounds) = codes "no verdict: limit\n"

-- The line names an offset, and is built when it is needed, which takes memory. Every other line is fixed, and takes
-- none.
abbrev pub NamesOffset : Refusal → Type 0
NamesOffset (Unread (read.Syntax at)) = ⊤
NamesOffset (Unread fault) = ⊥
NamesOffset (Unchecked scope.Memory) = ⊥
NamesOffset (Unchecked fault) = ⊤
NamesOffset (TooWide wide) = ⊥
NamesOffset Memory = ⊥
NamesOffset (Limit rounds) = ⊥

-- 2 if the text is at fault, 3 if memory ran out or the limit was passed
abbrev pub status_of : Refusal → ℕ
status_of (Unread read.Memory) = 3
status_of (Unread fault) = 2
status_of (Unchecked scope.Memory) = 3
status_of (Unchecked fault) = 2
status_of (TooWide wide) = 2
status_of Memory = 3
status_of (Limit rounds) = 3

-- the line of an answer
abbrev pub answer_line : Answer → List ℕ
answer_line Safe = codes "safe\n"
answer_line Unsafe = codes "unsafe\n"

-- the status of an answer
abbrev pub answer_status : Answer → ℕ
answer_status Safe = 0
answer_status Unsafe = 1

abbrev pub yes_or_no : Bool → List ℕ
yes_or_no true = codes "yes"
yes_or_no false = codes "no"

-- how far an exploration has come: the beginning of the line of its counts
abbrev pub rounds_words : Report → List ℕ
rounds_words report =
    codes "rounds " ++ (decimal report.rounds ++ (codes " settled " ++ (yes_or_no report.settled ++ (codes " turns "
    ++ decimal report.turns))))

-- what an exploration has found: the rest of the line
abbrev pub found_words : Report → List ℕ
found_words report =
    codes " heads " ++ (decimal report.heads ++ (codes " tuples " ++ (decimal report.tuples ++ (codes " nodes "
    ++ (decimal report.nodes ++ codes "\n")))))

-- the line of what an exploration has counted
abbrev pub counts_line : Report → List ℕ
counts_line report = rounds_words report ++ found_words report

-- what comes behind the answer of a report: nothing, or, if it is asked for, the line of its counts
abbrev pub line_behind : Bool → Report → List ℕ
line_behind false report = []
line_behind true report = counts_line report
