-- Programs as trees. One tree serves a text, whose names carry their offsets, and a resolved program,
-- whose variables are places and whose procedures are numbers: V, P and L stand for what a variable, a
-- procedure and a label are written as.
use Rattle.std.specs.Prelude.{ℕ, Bool, List, Option}

-- a name as it occurs in a text: its bytes, and the offset of the first
pub record Name : Type 0 where
  pub text : List ℕ
  pub at : ℕ

-- the two-sided operators
pub data Operator : Type 0 where
  implies or xor and equal differs : Operator

-- an expression over the variables V
pub data Expression (V : Type 0) : Type 0 where
  const : Bool → Expression V
  var : V → Expression V
  negation : Expression V → Expression V
  two : Operator → Expression V → Expression V → Expression V

-- a right side: `?`, which has both values, or an expression, which has one
pub data RightSide (V : Type 0) : Type 0 where
  any : RightSide V
  value : Expression V → RightSide V

-- the statements that hold no others; of the last two the one returns a value, and the other calls for one, which its
-- variable gets
pub data Simple (V P L : Type 0) : Type 0 where
  skip : Simple V P L
  assign : List V → List (RightSide V) → Simple V P L
  assert : RightSide V → Simple V P L
  assume : RightSide V → Simple V P L
  goto : L → Simple V P L
  leave : Simple V P L
  call : P → List (Expression V) → Simple V P L
  leave_with : Expression V → Simple V P L
  call_for : V → P → List (Expression V) → Simple V P L

-- what a statement is marked with: its label, if it has one, and in a text its offset (of the label, if it
-- has one)
pub record Mark (L : Type 0) : Type 0 where
  pub label : Option L
  pub at : ℕ

-- A list of statements: each form holds the statements after it. `choose` is an `if` with its two
-- branches, `loop` a `while` with its body.
pub data Block (V P L : Type 0) : Type 0 where
  done : Block V P L
  one : Mark L → Simple V P L → Block V P L → Block V P L
  choose : Mark L → RightSide V → Block V P L → Block V P L → Block V P L → Block V P L
  loop : Mark L → RightSide V → Block V P L → Block V P L → Block V P L

-- a procedure of a text
pub record Procedure : Type 0 where
  pub name : Name
  pub formals : List Name
  pub locals : List Name
  pub body : Block Name Name Name

-- a thread line of a text: the offset of the word `thread`, and the procedure named
pub record ThreadLine : Type 0 where
  pub at : ℕ
  pub name : Name

-- the tree of a text
pub record Tree : Type 0 where
  pub globals : List Name
  pub procedures : List Procedure
  pub threads : List ThreadLine
