-- What a statement of a public tree does without the statements that it holds, and these.
use Rattle.std.specs.Prelude.{Bool, ◌||◌, List, [], Option, Some, None}
use Rattle.language.specs.Tree.{Name, Expression, assign, call, leave_with, call_for, Block, done}
use Rattle.language.specs.Parts.{Head, plain, tests, gives}
use Rattle.language.specs.Resolve.{gives_value}
use Rattle.trees.specs.Trees.{Deed, simple, branch, repeat}

-- what a statement does, without the statements that it holds
abbrev pub head_of : Deed → Head Name Name Name
head_of (simple statement) = plain statement
head_of (branch side if_true if_false) = tests side
head_of (repeat side body) = tests side

-- the first list of statements that it holds: the branch of an `if` for 1, the body of a `while`
abbrev pub first_inside : Deed → Block Name Name Name
first_inside (simple statement) = done
first_inside (branch side if_true if_false) = if_true
first_inside (repeat side body) = body

-- the second list of statements that it holds: the branch of an `if` for 0
abbrev pub second_inside : Deed → Block Name Name Name
second_inside (simple statement) = done
second_inside (branch side if_true if_false) = if_false
second_inside (repeat side body) = done

-- the targets of an assignment, in order
abbrev pub assigned_by : {V P L : Type 0} → Head V P L → List V
assigned_by (plain (assign xs rs)) = xs
assigned_by _ = []

-- the variable that gets the value of a call, if the statement calls for one
abbrev pub receiver_of : {V P L : Type 0} → Head V P L → Option V
receiver_of (plain (call_for x callee es)) = Some x
receiver_of _ = None

-- the arguments of a call, in order
abbrev pub passed_by : {V P L : Type 0} → Head V P L → List (Expression V)
passed_by (plain (call callee es)) = es
passed_by (plain (call_for x callee es)) = es
passed_by _ = []

-- the value that the statement returns, if it returns one
abbrev pub given_by : {V P L : Type 0} → Head V P L → Option (Expression V)
given_by (plain (leave_with expression)) = Some expression
given_by _ = None

-- the statement, or one that it holds, returns a value
abbrev pub gives_inside : Deed → Bool
gives_inside deed = gives (head_of deed) || (gives_value (first_inside deed) || gives_value (second_inside deed))
