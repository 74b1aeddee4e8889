-- What is said about a fault of scopes, after the name at its place.
use Rattle.std.specs.Prelude.{◌≡◌, ℕ, ◌+◌, ◌==◌, ◌||◌, Bool, true, false, List, [], ◌∷◌, ◌++◌, Option, None, Some, bytes_eq, codes}
use Rattle.std.specs.Prelude.{drop, if◌then◌else◌, length, min, slice_get, take}
use Rattle.std.specs.Prelude.{◌⊎◌, MatchBool, nat_lt}
use Rattle.std.specs.Fmt.{decimal}
use Rattle.std.specs.List.{prefix_len}
use Rattle.checked.specs.Checked.{offset}
use Rattle.checked.specs.Limits.{most_procedures, most_statements, most_threads}
use Rattle.checked.specs.declared.fault.ScopeFault.{ScopeFault}
use Rattle.checked.specs.declared.fault.ScopeFault.TheVariants as fault
use Rattle.diagnostics.specs.Message.{WritesPlace, quoted}
use Rattle.tokens.specs.Cuts.{Cuts}
use Rattle.tokens.specs.Token.{same_kind, toks_of}
use Rattle.tokens.specs.declared.vocabulary.Kind.{Kind}
use Rattle.tokens.specs.declared.vocabulary.Kind.TheVariants as kind
use Rattle.tokens.specs.declared.vocabulary.Token.{Token}
use Rattle.hints.specs.Front.{front_to}
use Rattle.hints.specs.Hint.{HasNoTokens}
use Rattle.hints.specs.Place.{is_of, last_kind, without_last}
use Rattle.hints.specs.declared.front.Brackets.TheVariants.{Parens, Blocks}
use Rattle.hints.specs.declared.group.Group.TheVariants as group
use Rattle.fault_details.specs.Counting.{argument_count, count, items, side_count, statement_count}
use Rattle.fault_details.specs.Seeking.{comes_first, seek}
use Rattle.fault_details.specs.declared.seeking.Sought.TheVariants as sought
use Rattle.fault_details.specs.Visible.{global_tokens, like_variable}
use Rattle.fault_details.specs.declared.details.TheConstants.{AND, ARGUMENT, ASSIGNED, CONSTANT, DECLARED, GIVEN, HAS, LABELS}
use Rattle.fault_details.specs.declared.details.TheConstants.{LIKE, LIKE_END}
use Rattle.fault_details.specs.declared.details.TheConstants.{NO_LABEL, NO_PROCEDURE, NONE_FOR_THREADS, PAST, PROCEDURES, RESERVED}
use Rattle.fault_details.specs.declared.details.TheConstants.{RIGHT_SIDE, STATEMENTS, TAKES, TARGET, THREADS, UNDECLARED}

-- the text of the first token
abbrev pub first_text : List Token → List ℕ
first_text [] = []
first_text (token ∷ tokens) = token.text.now

-- The words go on with these, and with the place of the first token, if there is one.
abbrev pub TellsFirst : List ℕ → List ℕ → List Token → List ℕ → List ℕ → Type 0
TellsFirst said text [] old new = new ≡ old ++ said
TellsFirst said text (token ∷ tokens) old new = WritesPlace text (min (length text) token.at) (old ++ said) new

-- the token that begins the phrase
abbrev pub phrase_head : List Token → Option Kind
phrase_head before = last_kind (front_to Parens group.Head before)

-- the tokens after it
abbrev pub phrase : List Token → List Token
phrase before = drop (min (length before) (length (front_to Parens group.Head before))) before

-- The tokens end outside of bodies.
abbrev pub is_outside : List Token → Bool
is_outside before = length (front_to Blocks group.Section before) == 0

-- The phrase begins with a token of this kind.
abbrev pub is_headed : Kind → List Token → Bool
is_headed k before = is_of k (phrase_head before)

-- the tokens up to the last `begin` of what is open, without it and the `)` before it
abbrev pub to_formals : List Token → List Token
to_formals before = without_last (without_last (front_to Blocks (group.Only kind.Begin) before))

-- the tokens from the formals of the procedure on
abbrev pub formals_on : List Token → List Token
formals_on before =
    drop (min (length before) (length (front_to Parens (group.Only kind.Open) (to_formals before)))) before

-- the tokens from the first declaration of a name on, or from the first target of that name
abbrev pub first_name : List Token → List Token → List ℕ → List Token
first_name tokens before word =
    if is_outside before
    then (if is_headed kind.Decl before then seek sought.Name word before
    else if is_headed kind.Open before then seek sought.Name word (phrase before)
    else seek sought.Procedure word tokens)
    else if is_headed kind.Decl before then seek sought.Name word (formals_on before)
    else seek sought.Name word (phrase before)

-- what is said of a name that occurs again
abbrev pub twice : List Token → List ℕ
twice before = if is_outside before || is_headed kind.Decl before then DECLARED.now else ASSIGNED.now

-- the ending of a plural
abbrev pub plural : ℕ → List ℕ
plural number = if number == 1 then [] else codes "s"

-- the verb for a number of things
abbrev pub verb : ℕ → List ℕ
verb number = if number == 1 then codes "is" else codes "are"

-- how many arguments a procedure takes, and how many are given
abbrev pub given : ℕ → ℕ → List ℕ
given takes passed =
    TAKES.now ++ (decimal takes ++ (ARGUMENT.now ++ (plural takes
    ++ (AND.now ++ (decimal passed ++ (codes " " ++ (verb passed ++ GIVEN.now)))))))

-- how many targets and right sides there are
abbrev pub sided : ℕ → ℕ → List ℕ
sided targets sides =
    codes ": " ++ (decimal targets ++ (TARGET.now ++ (plural targets
    ++ (codes ", " ++ (decimal sides ++ (RIGHT_SIDE.now ++ (plural sides ++ codes "\n")))))))

-- `(` comes after the first token.
abbrev pub is_call : List Token → Bool
is_call [] = false
is_call (name ∷ rest) = comes_first kind.Open rest

-- which counts differ, from the name on
abbrev pub counts : List Token → List Token → List ℕ → List ℕ
counts tokens after word =
    if is_call after then given (argument_count (seek sought.Procedure word tokens)) (argument_count after)
    else sided (items after) (side_count after)

-- why a procedure with formals starts no thread
abbrev pub takes_some : ℕ → List ℕ
takes_some takes =
    TAKES.now ++ (decimal takes ++ (ARGUMENT.now ++ (plural takes ++ NONE_FOR_THREADS.now)))

-- why a procedure starts no thread
abbrev pub thread : List Token → List ℕ → List ℕ
thread tokens word =
    if length (seek sought.Procedure word tokens) == 0 then NO_PROCEDURE.now
    else takes_some (argument_count (seek sought.Procedure word tokens))

-- The last token is of this kind.
abbrev pub is_last : Kind → List Token → Bool
is_last k before = is_of k (last_kind before)

-- the tokens after the last `begin`
abbrev pub body : List Token → List Token
body before = drop (min (length before) (length (front_to Parens (group.Only kind.Begin) before))) before

-- which limit is passed, and how many the text has
abbrev pub limit : ℕ → List ℕ → ℕ → List ℕ
limit most what many =
    PAST.now ++ (decimal most ++ (codes " " ++ (what ++ (HAS.now ++ (decimal many ++ codes "\n")))))

-- which limit of a text is passed, at a thread line, a procedure or a statement
abbrev pub too_many : List Token → List Token → List Token → List ℕ
too_many tokens before after =
    if comes_first kind.Thread after then limit most_threads THREADS.now (count kind.Thread tokens)
    else if is_outside before then limit most_procedures PROCEDURES.now (count kind.End tokens)
    else limit most_statements STATEMENTS.now (statement_count tokens)

-- The word is a constant in other languages.
abbrev pub is_constant : List ℕ → Bool
is_constant word =
    bytes_eq word (codes "true") || bytes_eq word (codes "false") || bytes_eq word (codes "T") || bytes_eq word (codes "F")

-- the first token, if there is one
abbrev pub first_token : List Token → Option Token
first_token tokens = slice_get tokens 0

-- the first name like a word that would be declared in its place: a procedure if the word is called, else a variable
abbrev pub like : List Token → List Token → List Token → List ℕ → Option Token
like tokens before after word =
    if is_call after then first_token (seek sought.Like word tokens) else like_variable tokens before word

-- the name that may be meant
abbrev pub meant : List ℕ → List ℕ
meant name = quoted name ++ LIKE_END.now

-- that a name is not declared, and which one is like it, if one is
abbrev pub unknown : Option Token → List ℕ
unknown None = UNDECLARED.now
unknown (Some token) = LIKE.now ++ meant token.text.now

-- what is said of a name that is not declared
abbrev pub undeclared : List Token → List Token → List Token → List ℕ → List ℕ
undeclared tokens before after word = if is_constant word then CONSTANT.now else unknown (like tokens before after word)

-- The words go on with what is said of a label: that it is not there, or where it labels the first statement.
abbrev pub TellsLabel : List ℕ → List Token → List ℕ → List ℕ → List ℕ → Type 0
TellsLabel text before word old new =
    MatchBool (is_last kind.Goto before) (new ≡ old ++ NO_LABEL.now)
    ((between : List ℕ) × TellsFirst LABELS.now text (seek sought.Label word (body before)) old between
    × (new ≡ between ++ codes "\n"))

-- The words go on with what is said of a name that occurs again: where the first is.
abbrev pub TellsTwice : List ℕ → List Token → List Token → List ℕ → List ℕ → List ℕ → Type 0
TellsTwice text tokens before word old new =
    (between : List ℕ) × TellsFirst (twice before) text (first_name tokens before word) old between
    × (new ≡ between ++ codes "\n")

-- The words go on with what is said of a fault, between these tokens before its place and those from it on.
abbrev pub TellsFault : List ℕ → List Token → List Token → List Token → ScopeFault → List ℕ → List ℕ → Type 0
TellsFault text tokens before after (fault.Undeclared at) old new =
    new ≡ old ++ undeclared tokens before after (first_text after)
TellsFault text tokens before after (fault.DeclaredTwice at) old new =
    TellsTwice text tokens before (first_text after) old new
TellsFault text tokens before after (fault.WrongCount at) old new = new ≡ old ++ counts tokens after (first_text after)
TellsFault text tokens before after (fault.BadThread at) old new = new ≡ old ++ thread tokens (first_text after)
TellsFault text tokens before after (fault.BadLabel at) old new = TellsLabel text before (first_text after) old new
TellsFault text tokens before after (fault.Reserved at) old new = new ≡ old ++ RESERVED.now
TellsFault text tokens before after (fault.TooMany at) old new = new ≡ old ++ too_many tokens before after
TellsFault text tokens before after fault.Memory old new = new ≡ old

-- how many tokens come before an offset
abbrev pub before_offset : ℕ → List Token → ℕ
before_offset at tokens = prefix_len (λ t. nat_lt t.at at) tokens

-- The words are what is said of a fault of the text of these tokens.
abbrev pub IsSaid : List ℕ → List Token → ScopeFault → List ℕ → Type 0
IsSaid text tokens why words =
    TellsFault text tokens (take (before_offset (offset why) tokens) tokens) (drop (before_offset (offset why) tokens) tokens)
    why [] words

-- The words are what is said of a fault of this text; there are none if no tokens of the text are known, which is never
-- so of a text that has a fault of scopes.
abbrev pub Says : List ℕ → ScopeFault → List ℕ → Type 0
Says text why words =
    ((tokens : List Token) × Cuts 0 text (toks_of tokens) × IsSaid text tokens why words) ⊎ (HasNoTokens text × (words ≡ []))

-- This is how many thread lines the text has; 0 if no tokens of it are known.
abbrev pub CountsThreads : List ℕ → ℕ → Type 0
CountsThreads text number =
    ((tokens : List Token) × Cuts 0 text (toks_of tokens) × (number ≡ count kind.Thread tokens)) ⊎ (HasNoTokens text × (number ≡ 0))

-- This is how many globals the text declares; 0 if no tokens of it are known.
abbrev pub CountsGlobals : List ℕ → ℕ → Type 0
CountsGlobals text number =
    ((tokens : List Token) × Cuts 0 text (toks_of tokens) × (number ≡ count kind.Id (global_tokens tokens)))
    ⊎ (HasNoTokens text × (number ≡ 0))
