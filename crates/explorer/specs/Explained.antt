-- What standard error says about a refusal.
use Rattle.std.specs.Prelude.{◌≡◌, ℕ, ◌++◌, ◌==◌, List, codes, if◌then◌else◌, length, min}
use Rattle.std.specs.Fmt.{decimal}
use Rattle.resolved.specs.Limits.{most_places}
use Rattle.source_graphs.specs.declared.width.WideProcedure.{WideProcedure}
use Rattle.diagnostics.specs.Name.{escaped}
use Rattle.diagnostics.specs.Message.{Locates, of_name}
use Rattle.refusals.specs.Explained.{ExplainsFault, ExplainsUnread, no_memory}
use Rattle.exploration.specs.Limits.{most_of}
use Rattle.explore_line.specs.declared.asked.Order.{Order}
use Rattle.explorer.specs.declared.refusal.Refusal.{Refusal}
use Rattle.explorer.specs.declared.refusal.Refusal.TheVariants.{Unread, Unchecked, TooWide, Memory, Limit}

-- how many places a procedure has, and how many it may have
abbrev pub wide_words : ℕ → List ℕ
wide_words places =
    codes " has " ++ (decimal places ++ (codes " places with the globals, and " ++ (decimal most_places ++ codes " is the limit\n")))

-- Which procedure is too wide is said at its name.
abbrev pub LocatesWide : List ℕ → List ℕ → WideProcedure → List ℕ → List ℕ → Type 0
LocatesWide path text wide old new =
    Locates path text (min (length text) wide.at) (of_name (wide_words wide.places)) old new

-- what helps if this limit was passed; the greatest is 2^32 - 1
abbrev pub ways_out : ℕ → List ℕ
ways_out most =
    if most == 4294967295 then codes "hint: no limit is higher; fewer rounds may answer\n"
    else codes "hint: --limit N raises the limit, up to 4294967295\n"

-- the line for a limit that was passed, of how many rounds no run fails, and what helps
abbrev pub limit_lines : List ℕ → ℕ → ℕ → List ℕ
limit_lines path most rounds =
    escaped path ++ (codes ": error: more was found than the limit; no run of " ++ (decimal rounds
    ++ (codes " rounds fails\n" ++ ways_out most)))

-- The message continues the old one with what is said about the refusal: at a place, which is the text's end if the
-- offset is past it, or in a line about the file.
abbrev pub Explains : List ℕ → List ℕ → Order → Refusal → List ℕ → List ℕ → Type 0
Explains path text order (Unread fault) old new = ExplainsUnread path text fault old new
Explains path text order (Unchecked fault) old new = ExplainsFault path text fault old new
Explains path text order (TooWide wide) old new = LocatesWide path text wide old new
Explains path text order Memory old new = new ≡ old ++ no_memory
Explains path text order (Limit rounds) old new = new ≡ old ++ limit_lines path (most_of order.limit) rounds
