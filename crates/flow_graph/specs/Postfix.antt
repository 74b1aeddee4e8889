-- Postfix code: expressions as steps over a stack of values.
use mathlib.Core.HLevel.{×_prop, Unit-prop}
use native.Mathlib.Bridge.{le_prop}
use Rattle.std.specs.Prelude.{◌≡◌, ◌<◌, ◌≤◌, ℕ, suc, ◌+◌, ◌-◌, ◌*◌, ◌^◌, min, max, Bool, false, not}
use Rattle.std.specs.Prelude.{cond, ◌==◌, List, [], ◌∷◌, ◌++◌, length}
use Rattle.language.specs.Tree.{Expression, const, var, negation, two}
use Rattle.language.specs.Value.{operate}
use Rattle.trees.specs.Trees.{operator_of}
use Rattle.flow_graph.specs.Bits.{bit_of, coded}
use Rattle.flow_graph.specs.Located.{worth}
use Rattle.flow_graph.specs.declared.postfix.Instruction.{Instruction}
use Rattle.flow_graph.specs.declared.postfix.Instruction.TheVariants.{Read, Constant, Not, Apply, ApplySwapped}
use Rattle.resolved.specs.Limits.{most_places}

-- what a step makes of the stack, its top first: a bit or a constant is put on it, `Not` negates the top, and an
-- operator takes two values, the right one from the top, or the left one if the operands came in the other order
abbrev pub after_step : (ℕ → Bool) → Instruction → List Bool → List Bool
after_step f (Read bit) stack = f bit ∷ stack
after_step f (Constant truth) stack = truth ∷ stack
after_step f Not [] = []
after_step f Not (a ∷ stack) = not a ∷ stack
after_step f (Apply operator) [] = []
after_step f (Apply operator) (b ∷ []) = b ∷ []
after_step f (Apply operator) (b ∷ a ∷ stack) = operate (operator_of operator) a b ∷ stack
after_step f (ApplySwapped operator) [] = []
after_step f (ApplySwapped operator) (a ∷ []) = a ∷ []
after_step f (ApplySwapped operator) (a ∷ b ∷ stack) = operate (operator_of operator) a b ∷ stack

-- what the steps make of the stack, one after the other
abbrev pub after_steps : (ℕ → Bool) → List Instruction → List Bool → List Bool
after_steps f [] stack = stack
after_steps f (s ∷ ss) stack = after_steps f ss (after_step f s stack)

-- the top of the stack; 0 if there is none
abbrev pub top : List Bool → Bool
top [] = false
top (b ∷ bs) = b

-- from a stack with a given number of values, each step finds what it takes, and none leaves more than 64
abbrev pub IsShallow : ℕ → List Instruction → Type 0
IsShallow depth [] = Unit {0}
IsShallow depth (Read bit ∷ ss) = (depth < 64) × ((bit < most_places) × IsShallow (suc depth) ss)
IsShallow depth (Constant truth ∷ ss) = (depth < 64) × IsShallow (suc depth) ss
IsShallow depth (Not ∷ ss) = (1 ≤ depth) × IsShallow depth ss
IsShallow depth (Apply operator ∷ ss) = (2 ≤ depth) × IsShallow (depth - 1) ss
IsShallow depth (ApplySwapped operator ∷ ss) = (2 ≤ depth) × IsShallow (depth - 1) ss

-- an inequality of numbers has at most one proof
less_prop : (left_number right_number : ℕ) → IsProp (left_number < right_number)
less_prop left_number right_number = le_prop

pub few_prop : (left_number right_number : ℕ) → IsProp (left_number ≤ right_number)
few_prop left_number right_number = le_prop

-- this has at most one proof, so a type may carry it
pub IsShallow-prop : (depth : ℕ) (steps : List Instruction) → IsProp (IsShallow depth steps)
IsShallow-prop depth [] = Unit-prop
IsShallow-prop depth (Read bit ∷ ss) =
    ×_prop (less_prop depth 64) (×_prop (less_prop bit most_places) (IsShallow-prop (suc depth) ss))
IsShallow-prop depth (Constant truth ∷ ss) = ×_prop (less_prop depth 64) (IsShallow-prop (suc depth) ss)
IsShallow-prop depth (Not ∷ ss) = ×_prop (few_prop 1 depth) (IsShallow-prop depth ss)
IsShallow-prop depth (Apply operator ∷ ss) = ×_prop (few_prop 2 depth) (IsShallow-prop (depth - 1) ss)
IsShallow-prop depth (ApplySwapped operator ∷ ss) = ×_prop (few_prop 2 depth) (IsShallow-prop (depth - 1) ss)

-- For each stack that has the number old, which is deep enough for the step and not full, new is the number of the
-- stack after the step.
abbrev pub IsStepped : Instruction → ℕ → ℕ → ℕ → Type 0
IsStepped step values old new =
    (stack : List Bool) → old ≡ coded stack → IsShallow (length stack) (step ∷ []) → new ≡ coded (after_step (bit_of values) step stack)

-- how many values a stack holds at most while an expression is evaluated, the operand that needs more first
-- (Ershov's number; more than 2^32 - 1 are not told apart)
abbrev pub need : Expression ℕ → ℕ
need (const truth) = 1
need (var i) = 1
need (negation expression) = need expression
need (two operator left right) = cond (need left == need right) (min (need left + 1) 4294967295) (max (need left) (need right))

-- The steps evaluate the expression: they put its value on the stack, within the expression's need; and a need
-- above 64 would take more of them than memory has room for.
pub record Evaluates (expression : Expression ℕ) (steps : List Instruction) : Type 0 where
  pub puts : (reading : ℕ → Bool) (rest : List Instruction) (stack : List Bool) →
      after_steps reading (steps ++ rest) stack ≡ after_steps reading rest (worth reading expression ∷ stack)
  pub shallow : (depth : ℕ) (rest : List Instruction) → depth + need expression ≤ 64 → IsShallow (suc depth) rest →
      IsShallow depth (steps ++ rest)
  pub long : 2 ^ need expression ≤ 2 * length steps

-- from an empty stack, the steps end with the value of the expression on top, whatever values the bits have
abbrev pub AreCodeOf : List Instruction → Expression ℕ → Type 0
AreCodeOf steps expression = (reading : ℕ → Bool) → top (after_steps reading steps []) ≡ worth reading expression

-- such steps have been appended to others
abbrev pub PutsSteps : List Instruction → List Instruction → Expression ℕ → Type 0
PutsSteps old new expression = (steps : List Instruction) × (new ≡ old ++ steps) × Evaluates expression steps
