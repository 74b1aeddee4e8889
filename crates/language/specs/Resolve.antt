-- What the names of a text stand for. A name is the local or formal of its procedure if there is one, else
-- the global; of two procedures of one name it is the first.
use Rattle.std.specs.Prelude.{ℕ, suc, Bool, true, false, ◌||◌, List, [], ◌∷◌, ◌++◌, Option, Some, None, length, map, cond}
use Rattle.language.specs.Tree.{Name, Expression, const, var, negation, two, RightSide, any, value, Simple, skip, assign, assert, assume}
use Rattle.language.specs.Tree.{goto, leave, call, leave_with, call_for, Mark, Block, done, one, choose, loop, Procedure, ThreadLine, Tree}
use Rattle.language.specs.Parts.{plain, gives}
use Rattle.language.specs.Value.{Place, global, local}
use Rattle.language.specs.Rest.{Label, Code, same_text}
use Rattle.language.specs.Step.{Routine, Program}

-- how many names come before the first of this text: all of them, if there is none
abbrev pub number_of : List ℕ → List Name → ℕ
number_of text [] = 0
number_of text (name ∷ names) = cond (same_text text name.text) 0 (suc (number_of text names))

-- some name has this text
abbrev pub is_declared : List ℕ → List Name → Bool
is_declared text [] = false
is_declared text (name ∷ names) = cond (same_text text name.text) true (is_declared text names)

-- the names in scope for a procedure's statements: its formals, then its locals, and the globals
pub record Scope : Type 0 where
  pub globals : List Name
  pub locals : List Name
  pub procedures : List Name

-- the place of a variable
abbrev pub place_of : Scope → Name → Place
place_of scope name =
    cond (is_declared name.text scope.locals) (local (number_of name.text scope.locals)) (global (number_of name.text scope.globals))

-- an expression, a right side, a statement and a block with its names resolved
abbrev pub resolve_expression : Scope → Expression Name → Expression Place
resolve_expression scope (const truth) = const truth
resolve_expression scope (var variable) = var (place_of scope variable)
resolve_expression scope (negation expression) = negation (resolve_expression scope expression)
resolve_expression scope (two operator left right) = two operator (resolve_expression scope left) (resolve_expression scope right)

abbrev pub resolve_side : Scope → RightSide Name → RightSide Place
resolve_side scope any = any
resolve_side scope (value expression) = value (resolve_expression scope expression)

abbrev pub resolve_simple : Scope → Simple Name Name Name → Simple Place ℕ Label
resolve_simple scope skip = skip
resolve_simple scope (assign xs rs) = assign (map (place_of scope) xs) (map (resolve_side scope) rs)
resolve_simple scope (assert side) = assert (resolve_side scope side)
resolve_simple scope (assume side) = assume (resolve_side scope side)
resolve_simple scope (goto label) = goto label.text
resolve_simple scope leave = leave
resolve_simple scope (call callee es) = call (number_of callee.text scope.procedures) (map (resolve_expression scope) es)
resolve_simple scope (leave_with expression) = leave_with (resolve_expression scope expression)
resolve_simple scope (call_for x callee es) =
    call_for (place_of scope x) (number_of callee.text scope.procedures) (map (resolve_expression scope) es)

abbrev pub resolve_mark : Mark Name → Mark Label
resolve_mark mark = record { label = text_of mark.label; at = mark.at }
  where
    text_of : Option Name → Option Label
    text_of None = None
    text_of (Some n) = Some n.text

abbrev pub resolve_block : Scope → Block Name Name Name → Code
resolve_block scope done = done
resolve_block scope (one mark statement rest) = one (resolve_mark mark) (resolve_simple scope statement) (resolve_block scope rest)
resolve_block scope (choose mark side if_true if_false rest) =
    choose (resolve_mark mark) (resolve_side scope side) (resolve_block scope if_true) (resolve_block scope if_false)
    (resolve_block scope rest)
resolve_block scope (loop mark side body rest) =
    loop (resolve_mark mark) (resolve_side scope side) (resolve_block scope body) (resolve_block scope rest)

-- some statement of the block returns a value, those in branches and loops included
abbrev pub gives_value : {V P L : Type 0} → Block V P L → Bool
gives_value done = false
gives_value (one mark statement rest) = gives (plain statement) || gives_value rest
gives_value (choose mark side if_true if_false rest) = gives_value if_true || (gives_value if_false || gives_value rest)
gives_value (loop mark side body rest) = gives_value body || gives_value rest

-- the scope of a procedure
abbrev pub scope_of : Tree → Procedure → Scope
scope_of tree procedure = record {
  globals = tree.globals;
  locals = procedure.formals ++ procedure.locals;
  procedures = map (λ (q : Procedure). q.name) tree.procedures;
}

-- a procedure by places
abbrev pub routine_of : Tree → Procedure → Routine
routine_of tree procedure = record {
  places = length (procedure.formals ++ procedure.locals);
  gives = gives_value procedure.body;
  body = resolve_block (scope_of tree procedure) procedure.body;
}

-- what a text's tree means, by places
abbrev pub meaning_of : Tree → Program
meaning_of tree = record {
  globals = length tree.globals;
  routines = map (routine_of tree) tree.procedures;
  threads = map (λ (line : ThreadLine). number_of line.name.text (map (λ (q : Procedure). q.name) tree.procedures)) tree.threads;
}
