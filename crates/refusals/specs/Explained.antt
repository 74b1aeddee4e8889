-- What standard error says about a refusal.
use Rattle.std.specs.Prelude.{◌≡◌, Bool, true, false, MatchBool, ℕ, ◌*◌, ◌-◌, ◌||◌, ◌==◌, List, [], ◌∷◌, ◌++◌, Option, MatchOption}
use Rattle.std.specs.Prelude.{codes, if◌then◌else◌, length, min, nat_eq, nat_lt}
use Rattle.std.specs.List.{starts_with}
use Rattle.std.specs.Fmt.{decimal}
use Rattle.syntax.specs.declared.fault.ReadFault.{ReadFault}
use Rattle.syntax.specs.declared.fault.ReadFault.TheVariants as read
use Rattle.checked.specs.declared.fault.ScopeFault.{ScopeFault}
use Rattle.checked.specs.declared.fault.ScopeFault.TheVariants as scope
use Rattle.resolved.specs.Limits.{most_places}
use Rattle.diagnostics.specs.Name.{escaped}
use Rattle.diagnostics.specs.Message.{Locates, LocatesForeign, exceeds, here, needs, of_name, unexpected}
use Rattle.path_sets.specs.EdgeLimits.{most_of}
use Rattle.path_sets.specs.Limits.{most_edges}
use Rattle.round_rewrite.specs.Programs.{count_of}
use Rattle.round_rewrite.specs.declared.width.Wide.{Wide}
use Rattle.tokens.specs.Limits.{most_bytes}
use Rattle.tokens.specs.Token.{is_operator}
use Rattle.tokens.specs.declared.vocabulary.Kind.{Kind}
use Rattle.tokens.specs.declared.vocabulary.Token.{Token}
use Rattle.orders.specs.Parts.{rounds_of}
use Rattle.orders.specs.declared.order.Order.{Order}
use Rattle.orders.specs.declared.order.Order.TheVariants.{Check, Sequential}
use Rattle.checked.specs.Checked.{offset}
use Rattle.fault_details.specs.Deep.{GetsDeep}
use Rattle.fault_details.specs.Details.{CountsGlobals, CountsThreads, Says}
use Rattle.hints.specs.Hint.{AddsHint}
use Rattle.refusals.specs.declared.explanation.TheConstants.{ALL_ASCII, BYTES, EDGES, EXPLORE, FEWER, FEWER_END, HIGHER}
use Rattle.refusals.specs.declared.explanation.TheConstants.{LESS_OPEN, MAIN}
use Rattle.refusals.specs.declared.explanation.TheConstants.{MARKED, NO_HIGHER, NO_MEMORY, ONE_ROUND, OPEN}
use Rattle.refusals.specs.declared.explanation.TheConstants.{PLACES, PLACES_END, ROUNDS, RUN, SHORTER, TOO_DEEP, TOO_LONG, WIDE}
use Rattle.refusals.specs.declared.explanation.TheConstants.{WIDE_CHARACTERS}
use Rattle.refusals.specs.declared.refusal.Refusal.{Refusal}
use Rattle.refusals.specs.declared.refusal.Refusal.TheVariants.{Unread, Unchecked, TooWide, EdgeLimit, Memory, NoWorker, Spent}

-- the line for lack of memory
abbrev pub no_memory : List ℕ
no_memory = NO_MEMORY.now

-- the line for a text that is too long
abbrev pub long_line : List ℕ → List ℕ
long_line path = escaped path ++ (TOO_LONG.now ++ (decimal most_bytes ++ BYTES.now))

-- the hint for a text with a byte that is not ASCII: at its beginning a byte-order mark, or one of UTF-16, or none
abbrev pub ascii_hint : List ℕ → List ℕ
ascii_hint text =
    if starts_with nat_eq text (239 ∷ 187 ∷ 191 ∷ []) then MARKED.now
    else if starts_with nat_eq text (255 ∷ 254 ∷ []) || starts_with nat_eq text (254 ∷ 255 ∷ []) then WIDE_CHARACTERS.now
    else ALL_ASCII.now

-- what is said of a token of this kind, with which a text becomes too deep
abbrev pub depth_words : Kind → List ℕ
depth_words k = if is_operator k then RUN.now else OPEN.now

-- what helps if a text becomes too deep with a token of this kind
abbrev pub depth_hint : Kind → List ℕ
depth_hint k = if is_operator k then SHORTER.now else LESS_OPEN.now

-- That a text becomes too deep with a token is said at that token, and then what helps.
abbrev pub LocatesDepth : List ℕ → List ℕ → Token → List ℕ → List ℕ → Type 0
LocatesDepth path text token old new =
    (located : List ℕ) × Locates path text (min (length text) token.at) (here (depth_words token.kind)) old located
    × (new ≡ located ++ depth_hint token.kind)

-- That a text is too deep is said at the first token with which it is; in a line about the file, if there is none.
abbrev pub ExplainsDepth : List ℕ → List ℕ → List ℕ → List ℕ → Type 0
ExplainsDepth path text old new =
    (found : Option Token) × GetsDeep text found
    × MatchOption found (new ≡ old ++ (escaped path ++ TOO_DEEP.now)) (λ token. LocatesDepth path text token old new)

-- Why a text is not read is said at a place in it, or in a line about the file.
abbrev pub ExplainsUnread : List ℕ → List ℕ → ReadFault → List ℕ → List ℕ → Type 0
ExplainsUnread path text read.TooLong old new = new ≡ old ++ long_line path
ExplainsUnread path text read.NotAscii old new =
    (located : List ℕ) × LocatesForeign path text old located × (new ≡ located ++ ascii_hint text)
ExplainsUnread path text (read.Syntax at) old new =
    (located : List ℕ) × Locates path text (min (length text) at) unexpected old located
    × AddsHint text (min (length text) at) located new
ExplainsUnread path text read.TooDeep old new = ExplainsDepth path text old new
ExplainsUnread path text read.Memory old new = new ≡ old ++ no_memory

-- the hint about the rounds of a check that was too large: with one thread one is enough, with several fewer may be
abbrev pub fewer : ℕ → ℕ → List ℕ
fewer rounds threads =
    if nat_lt rounds 2 then [] else if nat_lt threads 2 then ONE_ROUND.now
    else FEWER.now ++ (decimal rounds ++ FEWER_END.now)

-- what helps if this limit of path edges was passed
abbrev pub ways_out : ℕ → List ℕ
ways_out most = if most == most_edges then NO_HIGHER.now else HIGHER.now ++ (decimal most_edges ++ codes "\n")

-- what to run if a limit of path edges was passed
abbrev pub explore_hint : List ℕ → List ℕ
explore_hint path = EXPLORE.now ++ (escaped path ++ codes "\n")

-- the line about `main__`, which has no place, and has more path edges than this
abbrev pub main_line : List ℕ → ℕ → List ℕ
main_line path most =
    escaped path ++ (MAIN.now ++ (decimal most ++ EDGES.now))

-- Which procedure has more path edges than this is said at its name, or in the line about `main__`.
abbrev pub TellsOver : List ℕ → List ℕ → Option ℕ → ℕ → List ℕ → List ℕ → Type 0
TellsOver path text at most old new =
    MatchOption at (new ≡ old ++ main_line path most)
    (λ o. Locates path text (min (length text) o) (of_name (exceeds most)) old new)

-- It is said which procedure has more path edges than this, and then what helps.
abbrev pub ExplainsOver : List ℕ → List ℕ → Option ℕ → ℕ → ℕ → List ℕ → List ℕ → Type 0
ExplainsOver path text at rounds most old new =
    (told : List ℕ) × TellsOver path text at most old told
    × ((threads : ℕ) × CountsThreads text threads × (new ≡ ((told ++ ways_out most) ++ fewer rounds threads) ++ explore_hint path))

-- For a passed limit of path edges it is said which procedure passed it, and then what helps; nothing for an order
-- without such a limit.
abbrev pub ExplainsLimit : List ℕ → List ℕ → Option ℕ → Order → List ℕ → List ℕ → Type 0
ExplainsLimit path text at (Check rounds edges stats) old new =
    ExplainsOver path text at (count_of rounds) (most_of edges) old new
ExplainsLimit path text at (Sequential rounds) old new = new ≡ old

-- the line for a program that is too wide in some procedure
abbrev pub wide_line : List ℕ → ℕ → List ℕ
wide_line path rounds =
    escaped path ++ (WIDE.now ++ (decimal most_places ++ (ROUNDS.now ++ (decimal rounds ++ codes "\n"))))

-- how many places all globals take together: each of them 2K - 1 for K rounds
abbrev pub global_places : ℕ → ℕ → ℕ
global_places globals rounds = (rounds * 2 - 1) * globals

-- what a place is, how many of a procedure's places the globals take, and how many are left for the others
abbrev pub places_line : ℕ → ℕ → ℕ → List ℕ
places_line places globals rounds =
    PLACES.now ++ (decimal globals ++ (codes " * " ++ (decimal (rounds * 2 - 1) ++ (codes " = " ++ (decimal (global_places globals rounds)
    ++ (PLACES_END.now ++ (decimal (places - global_places globals rounds) ++ codes "\n")))))))

-- Which procedure is too wide is said at its name, and then what takes its places.
abbrev pub LocatesWide : List ℕ → List ℕ → ℕ → Wide → List ℕ → List ℕ → Type 0
LocatesWide path text rounds wide old new =
    (located : List ℕ)
    × Locates path text (min (length text) wide.at) (of_name (needs wide.places rounds most_places)) old located
    × ((globals : ℕ) × CountsGlobals text globals × (new ≡ located ++ places_line wide.places globals rounds))

-- Which procedure is too wide is said at its name, or in a line about the file.
abbrev pub ExplainsWide : List ℕ → List ℕ → ℕ → Option Wide → List ℕ → List ℕ → Type 0
ExplainsWide path text rounds wide old new =
    MatchOption wide (new ≡ old ++ wide_line path rounds) (λ w. LocatesWide path text rounds w old new)

-- The fault is that memory ran out.
abbrev pub is_memory : ScopeFault → Bool
is_memory scope.Memory = true
is_memory fault = false

-- What is said of a fault of scopes is said at its place.
abbrev pub LocatesFault : List ℕ → List ℕ → ScopeFault → List ℕ → List ℕ → Type 0
LocatesFault path text fault old new =
    (words : List ℕ) × Says text fault words
    × Locates path text (min (length text) (offset fault)) (of_name words) old new

-- Why a program is not checked is said at a place in it, unless memory ran out.
abbrev pub ExplainsFault : List ℕ → List ℕ → ScopeFault → List ℕ → List ℕ → Type 0
ExplainsFault path text fault old new =
    MatchBool (is_memory fault) (new ≡ old ++ no_memory) (LocatesFault path text fault old new)

-- The message continues the old one with what is said about the refusal: at a place, which is the text's end if the
-- offset is past it, or in a line about the file.
abbrev pub Explains : List ℕ → List ℕ → Order → Refusal → List ℕ → List ℕ → Type 0
Explains path text order (Unread fault) old new = ExplainsUnread path text fault old new
Explains path text order (Unchecked fault) old new = ExplainsFault path text fault old new
Explains path text order (TooWide wide) old new = ExplainsWide path text (rounds_of order) wide old new
Explains path text order (EdgeLimit at) old new = ExplainsLimit path text at order old new
Explains path text order Memory old new = new ≡ old ++ no_memory
Explains path text order NoWorker old new = new ≡ old ++ (escaped path ++ codes ": error: the system refused a thread for a procedure\n")
Explains path text order Spent old new = new ≡ old ++ (escaped path ++ codes ": error: the worker of a procedure has used up its calls\n")
