-- The statements of a tree as one list, and the names that they use.
use Rattle.std.specs.Prelude.{List, [], ◌∷◌, ◌++◌, Option, Some, None, map}
use Rattle.language.specs.Tree.{Name, Expression, const, var, negation, two, RightSide, any, value, Mark, Block, done}
use Rattle.language.specs.Tree.{one, choose, loop, Procedure}
use Rattle.language.specs.Parts.{Head, plain, tests, targets_of, sides_of, test_of, arguments_of}
use Rattle.trees.specs.Trees.{Deed, item_of, name_of}
use Rattle.trees.specs.Parts.{head_of, first_inside, second_inside}
use Rattle.trees.specs.declared.tree.Stmt.{Stmt}
use Rattle.trees.specs.declared.tree.Name as declared
use denote.Ref.{Bor}

-- a statement without the statements that it holds
pub record Statement : Type 0 where
  pub mark : Mark Name
  pub head : Head Name Name Name

-- the statements of a block in the order of the text, those inside an `if` or a `while` after it
abbrev pub statements_of : Block Name Name Name → List Statement
statements_of done = []
statements_of (one mark statement rest) = record { mark = mark; head = plain statement } ∷ statements_of rest
statements_of (choose mark side if_true if_false rest) =
    record { mark = mark; head = tests side } ∷ (statements_of if_true ++ (statements_of if_false ++ statements_of rest))
statements_of (loop mark side body rest) = record { mark = mark; head = tests side } ∷ (statements_of body ++ statements_of rest)

-- the statements of procedures, in order
abbrev pub statements_of_all : List Procedure → List Statement
statements_of_all [] = []
statements_of_all (procedure ∷ procedures) = statements_of procedure.body ++ statements_of_all procedures

-- the variables of an expression, of a right side, of lists of them, and of an optional right side, each as often
-- as it occurs there
abbrev pub variables_of : Expression Name → List Name
variables_of (const truth) = []
variables_of (var variable) = variable ∷ []
variables_of (negation expression) = variables_of expression
variables_of (two operator left right) = variables_of left ++ variables_of right

abbrev pub variables_of_side : RightSide Name → List Name
variables_of_side any = []
variables_of_side (value expression) = variables_of expression

abbrev pub variables_of_sides : List (RightSide Name) → List Name
variables_of_sides [] = []
variables_of_sides (side ∷ sides) = variables_of_side side ++ variables_of_sides sides

abbrev pub variables_of_all : List (Expression Name) → List Name
variables_of_all [] = []
variables_of_all (expression ∷ expressions) = variables_of expression ++ variables_of_all expressions

abbrev pub variables_of_test : Option (RightSide Name) → List Name
variables_of_test None = []
variables_of_test (Some side) = variables_of_side side

-- the variables of a statement, targets first
abbrev pub used_by : Head Name Name Name → List Name
used_by head =
    targets_of head
    ++ (variables_of_sides (sides_of head) ++ (variables_of_test (test_of head) ++ variables_of_all (arguments_of head)))

-- the label of a statement, if it has one
abbrev pub label_of : Option Name → List Name
label_of None = []
label_of (Some label) = label ∷ []

-- the labels that statements define, in order
abbrev pub labels_of : List Statement → List Name
labels_of [] = []
labels_of (statement ∷ statements) = label_of statement.mark.label ++ labels_of statements

-- a statement as the code holds it, without those that it holds
abbrev pub statement_of : {A : Type 0} → Stmt A → Statement
statement_of statement = let i = item_of statement in record { mark = i.mark; head = head_of i.deed }

-- the names that references point to, in order
abbrev pub lent : {A : Type 0} → List (Bor (declared.Name A)) → List Name
lent ns = map (λ r. name_of r.now) ns

-- the statements that references point to, in order
abbrev pub lent_statements : {A : Type 0} → List (Bor (Stmt A)) → List Statement
lent_statements ss = map (λ r. statement_of r.now) ss

-- the statements that a statement holds
abbrev pub inside : Deed → List Statement
inside deed = statements_of (first_inside deed) ++ statements_of (second_inside deed)
