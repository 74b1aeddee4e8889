-- What happens at the points of a procedure.
use Rattle.std.specs.Prelude.{◌≡◌, ℕ, Bool, true, false, cond, Option, Some, None, List, [], ◌∷◌, map}
use Rattle.language.specs.Tree.{Expression, const, RightSide, value}
use Rattle.language.specs.Tree.{skip, assign, assert, assume, goto, leave, call, leave_with, call_for, done, one, choose, loop}
use Rattle.language.specs.Value.{Place, local, values_of, IsValue, AreValues, written_globals, written_locals}
use Rattle.language.specs.Rest.{Code, join, rest_from}
use Rattle.language.specs.Step.{Routine}
use Rattle.language.specs.Sequential.{Valuation, point_of}
use Rattle.language.specs.Flow.{rests}

-- the number of a point: that of its statement, or 0 for the exit
abbrev pub point_number : Option ℕ → ℕ
point_number None = 0
point_number (Some n) = n

-- the number of the point at which a rest begins
abbrev pub point_at : Code → ℕ
point_at rest = point_number (point_of rest)

-- What happens at a point: values are written, a test leads to one of two points, an assumption lets only 1 pass on, a
-- procedure is called, for a variable or for none, and left to at a point, or the procedure is left.
pub data Node : Type 0 where
  assigns : List Place → List (RightSide Place) → ℕ → Node
  tests : RightSide Place → ℕ → ℕ → Node
  assumes : RightSide Place → ℕ → Node
  calls : Option Place → ℕ → List (Expression Place) → ℕ → Node
  returns : Node

-- nothing is written, and the run continues at the point
abbrev pub goes : ℕ → Node
goes point = assigns [] [] point

-- no run continues
abbrev pub stops : Node
stops = assumes (value (const false)) 0

-- the run continues with what is left from a label on; if there is none, no run continues
abbrev pub goes_to : Option Code → Node
goes_to None = stops
goes_to (Some rest) = goes (point_at rest)

-- what happens at the first point of a rest of the procedure's body: a value that is returned is written to the place
-- of the result
abbrev pub node_of : Routine → Code → Node
node_of routine done = returns
node_of routine (one mark skip rest) = goes (point_at rest)
node_of routine (one mark (assign xs rs) rest) = assigns xs rs (point_at rest)
node_of routine (one mark (assert side) rest) = assumes side (point_at rest)
node_of routine (one mark (assume side) rest) = assumes side (point_at rest)
node_of routine (one mark (goto label) rest) = goes_to (rest_from label routine.body done)
node_of routine (one mark leave rest) = goes 0
node_of routine (one mark (call callee es) rest) = calls None callee es (point_at rest)
node_of routine (one mark (leave_with expression) rest) = assigns (local routine.places ∷ []) (value expression ∷ []) 0
node_of routine (one mark (call_for x callee es) rest) = calls (Some x) callee es (point_at rest)
node_of routine (choose mark side if_true if_false rest) = tests side (point_at (join if_true rest)) (point_at (join if_false rest))
node_of routine (loop mark side inside rest) = tests side (point_at (join inside (loop mark side inside rest))) (point_at rest)

-- what happens at the points of a procedure, the exit first
abbrev pub nodes_of : Routine → List Node
nodes_of routine = map (node_of routine) (done ∷ rests routine.body done)

-- the node leads from a valuation to a point with a valuation, inside the call
abbrev pub Leads : Node → Valuation → ℕ → Valuation → Type 0
Leads (assigns xs rs target) before point after =
    (vs : List Bool) × AreValues before.globals before.places rs vs
    × (point ≡ target) × (after ≡ record { globals = written_globals xs vs before.globals; places = written_locals xs vs before.places })
Leads (tests side if_true if_false) before point after = (truth : Bool) × IsValue before.globals before.places side truth
    × (point ≡ cond truth if_true if_false) × (after ≡ before)
Leads (assumes side target) before point after = IsValue before.globals before.places side true × (point ≡ target) × (after ≡ before)
Leads (calls target callee es back) before point after = ⊥
Leads returns before point after = ⊥

-- the node calls a procedure with these arguments, and the run continues at the point when it returns
abbrev pub NodeCalls : Node → Valuation → ℕ → List Bool → ℕ → Type 0
NodeCalls (calls target callee es back) valuation procedure args point = (procedure ≡ callee)
    × (args ≡ values_of valuation.globals valuation.places es) × (point ≡ back)
NodeCalls _ valuation procedure args point = ⊥

-- the variable that the node calls for, if it calls for a value
abbrev pub target_in : Node → Option Place
target_in (calls target callee es back) = target
target_in _ = None
