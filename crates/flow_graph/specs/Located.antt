-- Expressions whose variables are bits of a valuation's number: the globals from bit 0, then the formals and locals,
-- after which comes the result.
use Rattle.std.specs.Prelude.{ℕ, ◌+◌, ◌^◌, Bool, false, not, cond, nat_lt, Option, Some, None, length}
use Rattle.language.specs.Tree.{Name, Expression, const, var, negation, two}
use Rattle.language.specs.Value.{Place, global, local, operate}
use Rattle.language.specs.Step.{Routine}
use Rattle.language.specs.Resolve.{Scope, place_of}

-- the bit of a place, for this number of globals: none for a global that is not declared
abbrev pub bit_of_place : ℕ → Place → Option ℕ
bit_of_place globals (global i) = cond (nat_lt i globals) (Some i) None
bit_of_place globals (local i) = Some (globals + i)

-- the bit of a variable, if it is declared
abbrev pub bit_of_name : Scope → Name → Option ℕ
bit_of_name scope name = bit_of_place (length scope.globals) (place_of scope name)

-- the bit alone; 0 for none
abbrev pub mask_of : Option ℕ → ℕ
mask_of None = 0
mask_of (Some bit) = 2 ^ bit

-- the bit alone of the variable that is called for, for this number of globals; 0 for none
abbrev pub target_mask : ℕ → Option Place → ℕ
target_mask globals None = 0
target_mask globals (Some place) = mask_of (bit_of_place globals place)

-- the bit alone of the result of a procedure, for this number of globals; 0 if it gives none
abbrev pub given_mask : ℕ → Routine → ℕ
given_mask globals routine = cond routine.gives (2 ^ (globals + routine.places)) 0

-- a read of a bit; what is declared nowhere reads as 0
abbrev pub read_of : Option ℕ → Expression ℕ
read_of None = const false
read_of (Some bit) = var bit

-- the expression over bits
abbrev pub located : Scope → Expression Name → Expression ℕ
located scope (const truth) = const truth
located scope (var variable) = read_of (bit_of_name scope variable)
located scope (negation expression) = negation (located scope expression)
located scope (two operator left right) = two operator (located scope left) (located scope right)

-- the value of an expression over bits, if each bit has a value
abbrev pub worth : (ℕ → Bool) → Expression ℕ → Bool
worth f (const truth) = truth
worth f (var i) = f i
worth f (negation expression) = not (worth f expression)
worth f (two operator left right) = operate operator (worth f left) (worth f right)
