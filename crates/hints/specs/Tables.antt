-- The tables, as they stand in the code, and the first of their rows that fits.
use Rattle.std.specs.Prelude.{List, [], ◌∷◌, Option, None, Some, find, map}
use Rattle.hints.specs.Place.{Surroundings}
use Rattle.hints.specs.Row.{Row, fits, fixed_row}
use Rattle.hints.specs.declared.blocks.TheConstants.{BEGINNINGS, BODIES, BRANCHES, CALLS, CONDITIONS, EMPTY, SIMPLE, TARGETS}
use Rattle.hints.specs.declared.expressions.TheConstants.{BEGUN, LISTS, OPERANDS}
use Rattle.hints.specs.declared.outside.TheConstants.{DECLARATIONS, ENDS, HEADS, THREADS}
use Rattle.hints.specs.declared.signs.TheConstants.{BRACKETS, COMMENTS, OPERATORS}
use Rattle.hints.specs.declared.words.TheConstants.{ACTIONS, CAPITALS, CHOICES, NAMED_OPERATORS, TYPES}
use Rattle.hints.specs.declared.tables.Table.{Table}
use Rattle.hints.specs.declared.tables.Table.TheVariants as table

-- the rows of a table
unfoldable pub rows : Table → List Row
rows table.Comments = map fixed_row COMMENTS.now
rows table.Operators = map fixed_row OPERATORS.now
rows table.Brackets = map fixed_row BRACKETS.now
rows table.NamedOperators = map fixed_row NAMED_OPERATORS.now
rows table.Capitals = map fixed_row CAPITALS.now
rows table.Types = map fixed_row TYPES.now
rows table.Choices = map fixed_row CHOICES.now
rows table.Actions = map fixed_row ACTIONS.now
rows table.Declarations = map fixed_row DECLARATIONS.now
rows table.Threads = map fixed_row THREADS.now
rows table.Heads = map fixed_row HEADS.now
rows table.Ends = map fixed_row ENDS.now
rows table.Beginnings = map fixed_row BEGINNINGS.now
rows table.Empty = map fixed_row EMPTY.now
rows table.Branches = map fixed_row BRANCHES.now
rows table.Bodies = map fixed_row BODIES.now
rows table.Simple = map fixed_row SIMPLE.now
rows table.Conditions = map fixed_row CONDITIONS.now
rows table.Targets = map fixed_row TARGETS.now
rows table.Calls = map fixed_row CALLS.now
rows table.Begun = map fixed_row BEGUN.now
rows table.Lists = map fixed_row LISTS.now
rows table.Operands = map fixed_row OPERANDS.now

-- the first of two rows that is there
abbrev pub or_row : Option Row → Option Row → Option Row
or_row None second = second
or_row (Some row) second = Some row

-- the first row that fits what is seen, in the order of these tables
unfoldable pub row_among : Surroundings → List Table → Option Row
row_among seen [] = None
row_among seen (table ∷ tables) = or_row (find (fits seen) (rows table)) (row_among seen tables)

-- the tables, in the order in which they are looked at
abbrev pub in_order : List Table
in_order =
    table.Comments ∷ table.Operators ∷ table.Brackets ∷ table.NamedOperators ∷ table.Capitals ∷ table.Types ∷
    table.Choices ∷ table.Actions ∷ table.Declarations ∷ table.Threads ∷ table.Heads ∷ table.Ends ∷ table.Beginnings ∷
    table.Empty ∷ table.Branches ∷ table.Bodies ∷ table.Simple ∷ table.Conditions ∷ table.Targets ∷ table.Calls ∷
    table.Begun ∷ table.Lists ∷ table.Operands ∷ []

-- the first row that fits what is seen, in the order of the tables
abbrev pub row_for : Surroundings → Option Row
row_for seen = row_among seen in_order
