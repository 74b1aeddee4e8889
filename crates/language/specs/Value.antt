-- The values of expressions and right sides (Ball and Rajamani 2000: variables of truth values).
use Rattle.std.specs.Prelude.{◌≡◌, ℕ, slice_index_or, slice_set, Bool, false, List, [], ◌∷◌, not, ◌&&◌, ◌||◌, cond}
use Rattle.language.specs.Tree.{Operator, implies, or, xor, and, equal, differs, Expression, const, var, negation, two, RightSide, any}
use Rattle.language.specs.Tree.{value}

-- where a variable's value is kept: a global by its number, or a place of the frame, which has the formals,
-- then the locals, then the temporaries, and after them the result, if there is one
pub data Place : Type 0 where
  global : ℕ → Place
  local : ℕ → Place

-- the value at a number, and 0 past the end
abbrev pub bit : List Bool → ℕ → Bool
bit bs n = slice_index_or bs n false

-- the list with another value at a number; past the end nothing changes
abbrev pub with_bit : List Bool → ℕ → Bool → List Bool
with_bit bs n truth = slice_set bs n truth

-- the truth tables
abbrev pub operate : Operator → Bool → Bool → Bool
operate implies left right = not left || right
operate or left right = left || right
operate xor left right = cond left (not right) right
operate and left right = left && right
operate equal left right = cond left right (not right)
operate differs left right = cond left (not right) right

-- the value at a place
abbrev pub look_up : List Bool → List Bool → Place → Bool
look_up globals locals (global n) = bit globals n
look_up globals locals (local n) = bit locals n

-- the one value of an expression
abbrev pub value_of : List Bool → List Bool → Expression Place → Bool
value_of globals locals (const truth) = truth
value_of globals locals (var variable) = look_up globals locals variable
value_of globals locals (negation expression) = not (value_of globals locals expression)
value_of globals locals (two operator left right) = operate operator (value_of globals locals left) (value_of globals locals right)

-- the values of expressions, in order
abbrev pub values_of : List Bool → List Bool → List (Expression Place) → List Bool
values_of globals locals [] = []
values_of globals locals (expression ∷ expressions) = value_of globals locals expression ∷ values_of globals locals expressions

-- this is a value of the right side: `?` has both, an expression its one
abbrev pub IsValue : List Bool → List Bool → RightSide Place → Bool → Type 0
IsValue globals locals any truth = Unit {0}
IsValue globals locals (value expression) truth = truth ≡ value_of globals locals expression

-- the list has a value of each right side, in order
abbrev pub AreValues : List Bool → List Bool → List (RightSide Place) → List Bool → Type 0
AreValues globals locals [] [] = Unit {0}
AreValues globals locals [] (b ∷ bs) = ⊥
AreValues globals locals (side ∷ sides) [] = ⊥
AreValues globals locals (side ∷ sides) (b ∷ bs) = IsValue globals locals side b × AreValues globals locals sides bs

-- the globals after values are written to targets, one target after the other; the values were
-- computed before
abbrev pub written_globals : List Place → List Bool → List Bool → List Bool
written_globals [] vs globals = globals
written_globals (x ∷ xs) [] globals = globals
written_globals (global n ∷ xs) (v ∷ vs) globals = written_globals xs vs (with_bit globals n v)
written_globals (local n ∷ xs) (v ∷ vs) globals = written_globals xs vs globals

-- the same for the places of the frame
abbrev pub written_locals : List Place → List Bool → List Bool → List Bool
written_locals [] vs locals = locals
written_locals (x ∷ xs) [] locals = locals
written_locals (global n ∷ xs) (v ∷ vs) locals = written_locals xs vs locals
written_locals (local n ∷ xs) (v ∷ vs) locals = written_locals xs vs (with_bit locals n v)
