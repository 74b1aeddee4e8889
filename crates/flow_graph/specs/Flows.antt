-- What flows lead to, by numbers, and what nodes they do.
use Rattle.std.specs.Prelude.{◌≡◌, ◌↔◌, ◌≤◌, ◌<◌, ℕ, ◌+◌, Bool, cond, Option, Some, None}
use Rattle.std.specs.Prelude.{List, [], ◌∷◌, ◌++◌, length}
use Rattle.language.specs.Value.{Place}
use Rattle.language.specs.Resolve.{Scope}
use Rattle.language.specs.Sequential.{Valuation, Exit as ExitValues, resumed_with}
use Rattle.flow_graph.specs.Bits.{coded}
use Rattle.flow_graph.specs.Formulas.{side_value}
use Rattle.flow_graph.specs.Assignments.{after_writes}
use Rattle.flow_graph.specs.Calls.{call_entry, resumed}
use Rattle.flow_graph.specs.Nodes.{Node, target_in, Leads, NodeCalls}
use Rattle.flow_graph.specs.declared.side.CompiledSide.TheVariants as side
use Rattle.flow_graph.specs.declared.assignment.Assignment.{Assignment}
use Rattle.flow_graph.specs.declared.flow.Flow.{Flow}
use Rattle.flow_graph.specs.declared.flow.Flow.TheVariants.{Assign, Test, Assume, Call, Return}
use Rattle.flow_graph.specs.declared.exit.Exit.{Exit}
use Rattle.resolved.specs.Limits.{most_places}

-- a valuation as a number: the globals from bit 0, then the places
abbrev pub code : Valuation → ℕ
code valuation = coded (valuation.globals ++ valuation.places)

-- what is left by numbers: that of the globals, from bit 0, and the result
abbrev pub exit_code : ExitValues → Exit
exit_code exit = record { globals = coded exit.globals; result = exit.result }

-- the next valuation by this choice for the `?`
abbrev pub assigned : {Alloc : Type 0} → Assignment Alloc → ℕ → ℕ → ℕ
assigned assignment values choice = after_writes assignment.writes.items values choice values

-- the last choice
abbrev pub last_of : {Alloc : Type 0} → Flow Alloc → ℕ
last_of (Assign assignment to) = assignment.last
last_of (Test side.Any if_true if_false) = 1
last_of (Test (side.Value formula) if_true if_false) = 0
last_of (Assume test to) = 0
last_of (Call call) = 0
last_of Return = 0

-- the point and the valuation that a flow leads to for a choice, inside the call
abbrev pub next_of : {Alloc : Type 0} → Flow Alloc → ℕ → ℕ → Option (ℕ × ℕ)
next_of (Assign assignment to) values choice = Some (to, assigned assignment values choice)
next_of (Test test if_true if_false) values choice = Some (cond (side_value test values choice) if_true if_false, values)
next_of (Assume test to) values choice = cond (side_value test values 1) (Some (to, values)) None
next_of (Call call) values choice = None
next_of Return values choice = None

-- the procedure that a flow enters, with which valuation, and the point after the return
abbrev pub entered_by : {Alloc : Type 0} → Flow Alloc → ℕ → Option (ℕ × ℕ × ℕ)
entered_by (Call call) values = Some (call.callee, call_entry call.globals call.arguments.items values, call.back)
entered_by _ values = None

-- the valuation with which the caller continues from its own after a flow that calls, if the call has left this
abbrev pub resumed_by : {Alloc : Type 0} → Flow Alloc → ℕ → Exit → ℕ
resumed_by (Call call) values left = resumed call.globals call.target values left
resumed_by _ values left = values

-- by choice i the flow leads from the valuation to the point and the valuation with this number
abbrev pub LeadsBy : {Alloc : Type 0} → Flow Alloc → ℕ → Valuation → ℕ → ℕ → Type 0
LeadsBy flow i valuation point number = (i ≤ last_of flow) × (next_of flow (code valuation) i ≡ Some (point, number))

-- Behaviour of a flow, for the valuations for which W holds: it leads exactly where L says, to a point and the number
-- of a valuation, by one choice each; it enters exactly what E says, a procedure, the number of a valuation, and the
-- point after the return; and after what it enters the caller continues as one that called for the target.
pub record Behaves {Alloc : Type 0} (flow : Flow Alloc) (W : Valuation → Type 0) (L : Valuation → ℕ → ℕ → Type 0)
    (E : Valuation → ℕ → ℕ → ℕ → Type 0) (target : Option Place) : Type 0 where
  pub leads : (valuation : Valuation) (point number : ℕ) → W valuation
      → ((choice : ℕ) × LeadsBy flow choice valuation point number) ↔ L valuation point number
  pub once : (valuation : Valuation) (choice other_choice point number : ℕ) → W valuation → LeadsBy flow choice valuation point number
      → LeadsBy flow other_choice valuation point number → choice ≡ other_choice
  pub enters : (valuation : Valuation) (callee entered point : ℕ) → W valuation
      → (entered_by flow (code valuation) ≡ Some (callee, entered, point)) ↔ E valuation callee entered point
  pub resumes : (valuation : Valuation) (left : ExitValues) (callee entered point : ℕ) → W valuation
      → length left.globals ≡ length valuation.globals →
      entered_by flow (code valuation) ≡ Some (callee, entered, point)
      → resumed_by flow (code valuation) (exit_code left) ≡ code (resumed_with target valuation left)

-- How many globals and how many values of a frame a procedure's valuations have, and how many procedures there are.
pub record Widths : Type 0 where
  pub globals : ℕ
  pub places : ℕ
  pub procedures : ℕ

-- those of a procedure that has this scope, and gives a value or none
abbrev pub widths_of : Scope → Bool → Widths
widths_of scope gives = record {
  globals = length scope.globals;
  places = length scope.locals + cond gives 1 0;
  procedures = length scope.procedures;
}

-- The valuation has the widths: the number of its globals, and that of the values of a frame.
abbrev pub HasWidths : Widths → Valuation → Type 0
HasWidths widths valuation = (length valuation.globals ≡ widths.globals) × (length valuation.places ≡ widths.places)

-- the node leads to the point and the valuation with this number
abbrev pub LeadsTo : Node → Valuation → ℕ → ℕ → Type 0
LeadsTo node valuation point number = (after : Valuation) × Leads node valuation point after × (number ≡ code after)

-- The node calls a procedure, one of a given number, with the globals and the arguments, which are `entered` as a
-- number and no more than there are places; and this is the point after the call.
abbrev pub NodeEnters : Node → ℕ → Valuation → ℕ → ℕ → ℕ → Type 0
NodeEnters node procedures valuation callee entered point =
    (args : List Bool) × NodeCalls node valuation callee args point × (callee < procedures)
    × (length valuation.globals + length args ≤ most_places) × (entered ≡ coded (valuation.globals ++ args))

-- The flow does what happens at the node, for valuations of these widths: it leads where the node leads, enters what
-- the node calls, and continues after the call as one that called for the node's target.
abbrev pub Does : {Alloc : Type 0} → Flow Alloc → Node → Widths → Type 0
Does flow node widths = Behaves flow (HasWidths widths) (LeadsTo node) (NodeEnters node widths.procedures) (target_in node)

-- each flow does what happens at its node
abbrev pub AllDo : {Alloc : Type 0} → List (Flow Alloc) → List Node → Widths → Type 0
AllDo [] [] widths = Unit {0}
AllDo [] (n ∷ ns) widths = ⊥
AllDo (f ∷ fs) [] widths = ⊥
AllDo (f ∷ fs) (n ∷ ns) widths = Does f n widths × AllDo fs ns widths

-- flows that do these nodes have been appended to others
abbrev pub Lowered : {Alloc : Type 0} → List (Flow Alloc) → List (Flow Alloc) → List Node → Widths → Type 0
Lowered {Alloc} old new nodes widths = (flows : List (Flow Alloc)) × (new ≡ old ++ flows) × AllDo flows nodes widths
