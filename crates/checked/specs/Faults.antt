-- Where the faults of scopes stand: each is a property of a tree and an offset.
use Rattle.std.specs.Prelude.{◌≡◌, ◌≢◌, ℕ, List, [], ◌∷◌, ◌++◌, Bool, true, false, Option, Some, None, length, cond}
use Rattle.std.specs.Prelude.{slice_get, slice_index, ◌==◌, ◌⊎◌, ◌+◌}
use Rattle.language.specs.Tree.{Name, Procedure, ThreadLine, Tree}
use Rattle.language.specs.Parts.{Head, assigns, targets_of, sides_of, arguments_of, callee_of, jump_of}
use Rattle.language.specs.Rest.{same_text}
use Rattle.language.specs.Resolve.{is_declared}
use Rattle.checked.specs.Limits.{most_procedures, most_statements, most_threads}
use Rattle.resolved.specs.There.{IsThere, names}
use Rattle.resolved.specs.Statements.{Statement, statements_of, statements_of_all, used_by, labels_of}

-- some member of the list has the property
abbrev pub AnyOf : {X : Type 0} → (X → Type 0) → List X → Type 0
AnyOf P [] = ⊥
AnyOf P (x ∷ xs) = P x ⊎ AnyOf P xs

-- the first procedure of this name, if there is one
abbrev pub named : List ℕ → List Procedure → Option Procedure
named text [] = None
named text (procedure ∷ procedures) = cond (same_text text procedure.name.text) (Some procedure) (named text procedures)

-- a name is at the offset, and none of the lists declares it
abbrev pub IsUnknown : List Name → ℕ → Name → Type 0
IsUnknown names offset name = (name.at ≡ offset) × (is_declared name.text names ≡ false)

-- some of the names is at the offset, and none of the first list declares it
abbrev pub AnyUnknown : List Name → List Name → ℕ → Type 0
AnyUnknown names xs offset = AnyOf (λ x. IsUnknown names offset x) xs

-- the names of variables that a statement of the procedure can use: its formals, its locals, the globals
abbrev pub known : Tree → Procedure → List Name
known tree procedure = (procedure.formals ++ procedure.locals) ++ tree.globals

-- a called procedure that is at the offset and has no declaration
abbrev pub CallsUnknown : List Procedure → ℕ → Head Name Name Name → Type 0
CallsUnknown procedures offset head = IsThere (callee_of head) (λ callee. (callee.at ≡ offset) × (named callee.text procedures ≡ None))

-- a statement has at the offset a variable that is not one of these, or calls a procedure that has no
-- declaration
abbrev pub IsUndeclaredIn : List Name → List Procedure → Statement → ℕ → Type 0
IsUndeclaredIn variables ps statement offset = AnyUnknown variables (used_by statement.head) offset ⊎ CallsUnknown ps offset statement.head

-- a statement of the procedure has at the offset a variable or a called procedure that has no declaration
abbrev pub UndeclaredInProcedure : Tree → Procedure → ℕ → Type 0
UndeclaredInProcedure tree procedure offset =
    AnyOf (λ s. IsUndeclaredIn (known tree procedure) tree.procedures s offset) (statements_of procedure.body)

-- a variable or a called procedure at the offset has no declaration
abbrev pub Undeclared : Tree → ℕ → Type 0
Undeclared tree offset = AnyOf (λ p. UndeclaredInProcedure tree p offset) tree.procedures

-- a name at the offset has the text of one that comes before it in the list
abbrev pub Repeated : List Name → ℕ → Type 0
Repeated [] offset = ⊥
Repeated (x ∷ xs) offset = AnyOf (λ (y : Name). (y.at ≡ offset) × (same_text x.text y.text ≡ true)) xs ⊎ Repeated xs offset

-- a name at the offset occurs again among the formals and locals of a procedure, or among the targets of an
-- assignment in it
abbrev pub IsTwiceIn : Procedure → ℕ → Type 0
IsTwiceIn procedure offset = Repeated (procedure.formals ++ procedure.locals) offset
    ⊎ AnyOf (λ s. Repeated (targets_of s.head) offset) (statements_of procedure.body)

-- a name at the offset occurs again among the globals, the procedures, the formals and locals of one procedure, or
-- the targets of one assignment
abbrev pub DeclaredTwice : Tree → ℕ → Type 0
DeclaredTwice tree offset =
    Repeated tree.globals offset
    ⊎ (Repeated (names tree.procedures) offset
    ⊎ AnyOf (λ p. IsTwiceIn p offset) tree.procedures)

-- where a list of targets begins: at its first, or if it is empty, where the statement does
abbrev pub first_at : ℕ → List Name → ℕ
first_at otherwise [] = otherwise
first_at otherwise (x ∷ xs) = x.at

-- an assignment has more or fewer targets than right sides; `offset` is that of the first target
abbrev pub MiscountsSides : ℕ → Statement → Type 0
MiscountsSides offset statement =
    (assigns statement.head ≡ true) × (first_at statement.mark.at (targets_of statement.head) ≡ offset)
    × (length (targets_of statement.head) ≢ length (sides_of statement.head))

-- a call has more or fewer arguments than the procedure that it calls has formals; `offset` is that of the called name
abbrev pub MiscountsArguments : List Procedure → ℕ → Head Name Name Name → Type 0
MiscountsArguments procedures offset head =
    IsThere (callee_of head) (λ callee. (callee.at ≡ offset)
    × IsThere (named callee.text procedures) (λ p. length p.formals ≢ length (arguments_of head)))

-- a statement's targets and right sides, or its arguments and the formals of the procedure that it calls, differ
-- in number; `offset` is that of the first target or of the called name
abbrev pub Miscounts : List Procedure → ℕ → Statement → Type 0
Miscounts procedures offset statement = MiscountsSides offset statement ⊎ MiscountsArguments procedures offset statement.head

-- a statement of the procedure does
abbrev pub MiscountsIn : List Procedure → Procedure → ℕ → Type 0
MiscountsIn ps procedure offset = AnyOf (Miscounts ps offset) (statements_of procedure.body)

-- an assignment at the offset has more or fewer targets than right sides, or a call more or fewer arguments than
-- formals
abbrev pub WrongCount : Tree → ℕ → Type 0
WrongCount tree offset = AnyOf (λ p. MiscountsIn tree.procedures p offset) tree.procedures

-- the procedure has no formals
abbrev pub no_formals : Procedure → Bool
no_formals procedure = length procedure.formals == 0

-- a thread can start in this procedure: it is there, and has no formals
abbrev pub CanStart : Option Procedure → Type 0
CanStart procedure = IsThere procedure (λ q. no_formals q ≡ true)

-- the thread line names at the offset no procedure, or one with formals
abbrev pub StartsNowhere : List Procedure → ThreadLine → ℕ → Type 0
StartsNowhere ps line offset = (line.name.at ≡ offset) × (CanStart (named line.name.text ps) → ⊥)

-- some thread line does
abbrev pub BadThread : Tree → ℕ → Type 0
BadThread tree offset = AnyOf (λ line. StartsNowhere tree.procedures line offset) tree.threads

-- a goto that is at the offset names none of these labels
abbrev pub GoesNowhere : List Name → ℕ → Head Name Name Name → Type 0
GoesNowhere labels offset head = IsThere (jump_of head) (IsUnknown labels offset)

-- a goto of the procedure names at the offset none of its labels, or a label of it occurs again at the offset
abbrev pub MislabelledIn : ℕ → Procedure → Type 0
MislabelledIn offset procedure =
    AnyOf (λ (s : Statement). GoesNowhere (labels_of (statements_of procedure.body)) offset s.head) (statements_of procedure.body)
    ⊎ Repeated (labels_of (statements_of procedure.body)) offset

-- a goto names at the offset no label of its procedure, or a label of a procedure occurs again at the offset
abbrev pub BadLabel : Tree → ℕ → Type 0
BadLabel tree offset = AnyOf (MislabelledIn offset) tree.procedures

-- the text has two underscores in a row
abbrev pub HasTwoUnderscores : List ℕ → Type 0
HasTwoUnderscores text = (k : ℕ) × (slice_index text k ≡ 95) × (slice_index text (k + 1) ≡ 95)

-- one of the names is at the offset and has two underscores in a row
abbrev pub IsReserved : List Name → ℕ → Type 0
IsReserved xs offset = AnyOf (λ (x : Name). (x.at ≡ offset) × HasTwoUnderscores x.text) xs

-- a formal, a local or a label of the procedure at the offset has two underscores in a row
abbrev pub ReservedIn : ℕ → Procedure → Type 0
ReservedIn offset procedure = IsReserved (procedure.formals ++ procedure.locals) offset
    ⊎ IsReserved (labels_of (statements_of procedure.body)) offset

-- a declared variable, procedure or label at the offset has two underscores in a row
abbrev pub Reserved : Tree → ℕ → Type 0
Reserved tree offset =
    IsReserved tree.globals offset
    ⊎ (IsReserved (names tree.procedures) offset
    ⊎ AnyOf (ReservedIn offset) tree.procedures)

-- the 32nd procedure has its name at the offset, the 9th thread line is at the offset, or the 1,001st statement of
-- the whole text does
abbrev pub TooMany : Tree → ℕ → Type 0
TooMany tree offset =
    IsThere (slice_get tree.procedures most_procedures) (λ p. p.name.at ≡ offset)
    ⊎ (IsThere (slice_get tree.threads most_threads) (λ line. line.at ≡ offset)
    ⊎ IsThere (slice_get (statements_of_all tree.procedures) most_statements) (λ s. s.mark.at ≡ offset))
