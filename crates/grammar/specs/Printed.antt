-- The printed form of a tree: the tokens and blanks that make its text.
use Rattle.std.specs.Prelude.{◌≡◌, ℕ, zero, suc, cond, List, [], ◌∷◌, ◌++◌, map, Option, Some, None, Result, IfOk}
use Rattle.std.specs.String.{string_bytes}
use Rattle.std.specs.declared.string.String.{String}
use Rattle.language.specs.Tree.{Name, Operator, implies, or, xor, and, equal, differs, Expression, const, var, negation, two, RightSide}
use Rattle.language.specs.Tree.{any, value, Simple, skip, assign, assert, assume, goto, leave, leave_with, call, call_for, Block, done}
use Rattle.language.specs.Tree.{one, choose, loop, Procedure, ThreadLine, Tree}
use Rattle.tokens.specs.declared.vocabulary.Kind.{Kind}
use Rattle.tokens.specs.declared.vocabulary.Kind.TheVariants as kind
use Rattle.tokens.specs.Parts.{Part, shown, space, line, fixed, text_of}
use Rattle.grammar.specs.Grammar.{joined}

-- The text continues with these parts, unless memory runs out.
abbrev pub Prints : {A X E : Type 0} → Result X E → String A → String A → List Part → Type 0
Prints result old new parts = IfOk result (λ _. string_bytes new ≡ string_bytes old ++ text_of parts)

-- A name is printed as it is.
abbrev pub name_parts : Name → List Part
name_parts name = shown kind.Id name.text ∷ []

-- What is in parentheses.
abbrev pub in_parens : List Part → List Part
in_parens inside = fixed kind.Open ∷ (inside ++ (fixed kind.Close ∷ []))

-- Each with a comma and a space in front.
abbrev pub after_commas : {X : Type 0} → (X → List Part) → List X → List Part
after_commas show [] = []
after_commas show (x ∷ xs) = fixed kind.Comma ∷ space ∷ (show x ++ after_commas show xs)

-- Names, targets, right sides and arguments are separated by a comma and a space.
abbrev pub separated : {X : Type 0} → (X → List Part) → List X → List Part
separated show [] = []
separated show (x ∷ xs) = show x ++ after_commas show xs

-- The token of an operator.
abbrev pub kind_of : Operator → Kind
kind_of implies = kind.Implies
kind_of or = kind.Or
kind_of xor = kind.Xor
kind_of and = kind.And
kind_of equal = kind.Equal
kind_of differs = kind.Differs

-- A two-sided operator stands between its operands, with one space on both sides.
abbrev pub operation : Operator → List Part → List Part → List Part
operation operator left right = left ++ (space ∷ fixed (kind_of operator) ∷ space ∷ right)

-- An operand is a constant, a name, `!` followed at once by its operand, or a two-sided operation in parentheses.
abbrev pub operand_parts : Expression Name → List Part
operand_parts (const truth) = fixed (cond truth kind.One kind.Zero) ∷ []
operand_parts (var variable) = name_parts variable
operand_parts (negation expression) = fixed kind.Not ∷ operand_parts expression
operand_parts (two operator left right) = in_parens (operation operator (operand_parts left) (operand_parts right))

-- An expression is printed as an operand is, except that a two-sided operation has no parentheses around it.
abbrev pub expression_parts : Expression Name → List Part
expression_parts (const truth) = operand_parts (const truth)
expression_parts (var variable) = operand_parts (var variable)
expression_parts (negation expression) = operand_parts (negation expression)
expression_parts (two operator left right) = operation operator (operand_parts left) (operand_parts right)

-- A right side is `?` or an expression.
abbrev pub side_parts : RightSide Name → List Part
side_parts any = fixed kind.Any ∷ []
side_parts (value expression) = expression_parts expression

-- A call is the name of a procedure, and the arguments in parentheses.
abbrev pub call_parts : Name → List (Expression Name) → List Part
call_parts callee es = name_parts callee ++ in_parens (separated expression_parts es)

-- What a semicolon ends.
abbrev pub ended : List Part → List Part
ended parts = parts ++ (fixed kind.Semicolon ∷ [])

-- A statement that holds no others, as it stands on its line.
abbrev pub simple_parts : Simple Name Name Name → List Part
simple_parts skip = ended (fixed kind.Skip ∷ [])
simple_parts (assign xs rs) = ended (separated name_parts xs ++ (space ∷ fixed kind.Assign ∷ space ∷ separated side_parts rs))
simple_parts (assert side) = ended (fixed kind.Assert ∷ in_parens (side_parts side))
simple_parts (assume side) = ended (fixed kind.Assume ∷ in_parens (side_parts side))
simple_parts (goto label) = ended (fixed kind.Goto ∷ space ∷ name_parts label)
simple_parts leave = ended (fixed kind.Return ∷ [])
simple_parts (leave_with expression) = ended (fixed kind.Return ∷ space ∷ expression_parts expression)
simple_parts (call callee es) = ended (call_parts callee es)
simple_parts (call_for target callee es) = ended (name_parts target ++ (space ∷ fixed kind.Assign ∷ space ∷ call_parts callee es))

-- The statement's first line begins with its label, a colon and a space, if it has a label.
abbrev pub label_parts : Option Name → List Part
label_parts None = []
label_parts (Some label) = name_parts label ++ (fixed kind.Colon ∷ space ∷ [])

-- Two spaces for each level.
abbrev pub margin : ℕ → List Part
margin zero = []
margin (suc level) = space ∷ space ∷ margin level

-- A line has the spaces of its level in front, and ends with a line feed.
abbrev pub line_parts : ℕ → List Part → List Part
line_parts level parts = margin level ++ (parts ++ (line ∷ []))

-- A test stands between its keywords, in parentheses, with a space on both sides of them.
abbrev pub test_parts : Kind → RightSide Name → Kind → List Part
test_parts first side last = fixed first ∷ space ∷ (in_parens (side_parts side) ++ (space ∷ fixed last ∷ []))

-- The statements of a block, each on a line of its own; `if (r) then`, `else`, `fi`, `while (r) do` and `od` are on
-- lines of their own, and what they enclose is one level further in.
abbrev pub block_parts : ℕ → Block Name Name Name → List Part
block_parts level done = []
block_parts level (one mark statement rest) = line_parts level (label_parts mark.label ++ simple_parts statement) ++ block_parts level rest
block_parts level (choose mark side if_true if_false rest) =
    line_parts level (label_parts mark.label ++ test_parts kind.If side kind.Then) ++ (block_parts (suc level) if_true
    ++ (line_parts level (fixed kind.Else ∷ []) ++ (block_parts (suc level) if_false
    ++ (line_parts level (fixed kind.Fi ∷ []) ++ block_parts level rest))))
block_parts level (loop mark side body rest) =
    line_parts level (label_parts mark.label ++ test_parts kind.While side kind.Do) ++ (block_parts (suc level) body
    ++ (line_parts level (fixed kind.Od ∷ []) ++ block_parts level rest))

-- All names declared in one place are on one line, if there are any.
abbrev pub declaration_parts : ℕ → List Name → List Part
declaration_parts level [] = []
declaration_parts level (name ∷ names) = line_parts level (ended (fixed kind.Decl ∷ space ∷ separated name_parts (name ∷ names)))

-- A procedure is its name with its formals in parentheses, `begin`, its locals and its statements one level further
-- in, and `end`.
abbrev pub procedure_parts : Procedure → List Part
procedure_parts procedure =
    line_parts 0 (name_parts procedure.name ++ in_parens (separated name_parts procedure.formals)) ++ (line_parts 0 (fixed kind.Begin ∷ [])
    ++ (declaration_parts 1 procedure.locals ++ (block_parts 1 procedure.body ++ line_parts 0 (fixed kind.End ∷ []))))

-- A thread line.
abbrev pub thread_parts : ThreadLine → List Part
thread_parts thread_line = line_parts 0 (ended (fixed kind.Thread ∷ space ∷ name_parts thread_line.name))

-- The declaration of all globals, the procedures, and a line for each thread.
abbrev pub program_parts : Tree → List Part
program_parts tree =
    declaration_parts 0 tree.globals ++ (joined (map procedure_parts tree.procedures) ++ joined (map thread_parts tree.threads))

-- The text that is printed for a tree.
unfoldable pub printed : Tree → List ℕ
printed tree = text_of (program_parts tree)
