-- What compiled expressions and right sides say.
use Rattle.std.specs.Prelude.{◌≡◌, ℕ, Bool, false, Option, Some, None, List, [], ◌∷◌, ◌++◌, length, map, slice_get}
use Rattle.language.specs.Tree.{Name, Expression, RightSide, any, value, var}
use Rattle.language.specs.Value.{value_of}
use Rattle.language.specs.Resolve.{Scope, resolve_expression}
use Rattle.flow_graph.specs.Bits.{bit_of, coded}
use Rattle.flow_graph.specs.Located.{worth}
use Rattle.flow_graph.specs.Postfix.{after_steps, top}
use Rattle.flow_graph.specs.Tables.{table_says, HaveRow}
use Rattle.flow_graph.specs.Windows.{seen}
use Rattle.flow_graph.specs.declared.formula.Formula.{Formula}
use Rattle.flow_graph.specs.declared.formula.Formula.TheVariants.{Code, Cases as CasesOf, Table as Tabled, Bit as BitOf}
use Rattle.flow_graph.specs.declared.outputs.Outputs.{Outputs}
use Rattle.flow_graph.specs.declared.outputs.Outputs.TheVariants.{One, More}
use Rattle.flow_graph.specs.declared.case_tables.CaseTables.{CaseTables}
use Rattle.flow_graph.specs.declared.table.TruthTable.{TruthTable}
use Rattle.flow_graph.specs.declared.side.CompiledSide.{CompiledSide}
use Rattle.flow_graph.specs.declared.side.CompiledSide.TheVariants as side

-- the words of the outputs of a table
abbrev pub words_of : {Alloc : Type 0} → Outputs Alloc → List ℕ
words_of (One word) = word ∷ []
words_of (More words) = words.items

-- the output of a table in the row of these values
abbrev pub table_worth : {Alloc : Type 0} → TruthTable Alloc → ℕ → Bool
table_worth table values = table_says (seen table.inputs.items.items) (words_of table.outputs) values

-- for all values by which the known bits have this row, the output in their row is the value of the expression
abbrev pub IsTruthTableIn : {Alloc : Type 0} → TruthTable Alloc → List ℕ → ℕ → Expression ℕ → Type 0
IsTruthTableIn table known row expression =
    (values : ℕ) → HaveRow known row (bit_of values) → table_worth table values ≡ worth (bit_of values) expression

-- the output of a table, if there is one
abbrev pub case_worth : {Alloc : Type 0} → Option (TruthTable Alloc) → ℕ → Bool
case_worth None values = false
case_worth (Some table) values = table_worth table values

-- the output of the table for the row that the picked bits have by these values
abbrev pub case_tables_worth : {Alloc : Type 0} → CaseTables Alloc → ℕ → Bool
case_tables_worth cases values = case_worth (slice_get cases.cases.items (coded (map (bit_of values) (seen cases.bits.items.items)))) values

-- for all values, the table for the row of the picked bits says the value of the expression
abbrev pub AreTruthTablesOf : {Alloc : Type 0} → CaseTables Alloc → Expression ℕ → Type 0
AreTruthTablesOf cases expression = (values : ℕ) → case_tables_worth cases values ≡ worth (bit_of values) expression

-- the bit of an expression that is a variable
abbrev pub bit_of_variable : Expression ℕ → Option ℕ
bit_of_variable (var bit) = Some bit
bit_of_variable expression = None

-- the value of the formula for these values: the bit's, the table's output in their row, that of the table for the
-- picked bits' row, or what its steps leave on the stack
abbrev pub says : {Alloc : Type 0} → Formula Alloc → ℕ → Bool
says (BitOf variable) values = bit_of values variable.bit
says (Tabled table) values = table_worth table values
says (CasesOf cases) values = case_tables_worth cases values
says (Code p) values = top (after_steps (bit_of values) p.steps.items [])

-- For every valuation of as many globals as the scope has, the formula has the value of the expression.
abbrev pub FormulaSays : {Alloc : Type 0} → Formula Alloc → Scope → Expression Name → Type 0
FormulaSays formula scope expression =
    (globals places : List Bool) → length globals ≡ length scope.globals →
    says formula (coded (globals ++ places)) ≡ value_of globals places (resolve_expression scope expression)

-- the compiled right side says what the right side says: `?`, or an expression
abbrev pub SaysSide : {Alloc : Type 0} → CompiledSide Alloc → Scope → RightSide Name → Type 0
SaysSide side.Any scope any = Unit {0}
SaysSide side.Any scope (value expression) = ⊥
SaysSide (side.Value formula) scope any = ⊥
SaysSide (side.Value formula) scope (value expression) = FormulaSays formula scope expression

-- the value of a compiled right side: for `?` the lowest bit of the choice, else what it says of the valuation
abbrev pub side_value : {Alloc : Type 0} → CompiledSide Alloc → ℕ → ℕ → Bool
side_value side.Any values choice = bit_of choice 0
side_value (side.Value formula) values choice = says formula values
