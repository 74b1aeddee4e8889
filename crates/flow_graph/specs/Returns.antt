-- Calls that return, by numbers.
use Rattle.std.specs.Prelude.{◌≡◌, ◌<◌, ℕ, ◌^◌, ◌%◌, Option, Some, None, length, slice_get}
use Rattle.language.specs.Value.{Place, global, local}
use Rattle.language.specs.Sequential.{Valuation, Exit as ExitValues, resumed_with}
use Rattle.flow_graph.specs.Bits.{has_any, coded}
use Rattle.flow_graph.specs.Located.{target_mask}
use Rattle.flow_graph.specs.Flows.{code, exit_code, resumed_by}
use Rattle.flow_graph.specs.Drawn.{flows_of, globals_of, result_mask}
use Rattle.flow_graph.specs.declared.call.Call.{Call}
use Rattle.flow_graph.specs.declared.flow.Flow.{Flow}
use Rattle.flow_graph.specs.declared.graph.Graph.{Graph}
use Rattle.flow_graph.specs.declared.exit.Exit.{Exit}

-- what is left at the exit with this valuation: its globals, and the result
abbrev pub left_by : {Alloc : Type 0} → Graph Alloc → ℕ → Exit
left_by graph values = record { globals = values % 2 ^ globals_of graph; result = has_any values (result_mask graph) }

-- if `values` is the number of a valuation with a given number of globals, the other is the number of its globals
abbrev pub AreGlobalsOf : ℕ → ℕ → ℕ → Type 0
AreGlobalsOf globals values after =
    (valuation : Valuation) → length valuation.globals ≡ globals → values ≡ code valuation → after ≡ coded valuation.globals

-- the same valuation, if there is no flow
abbrev pub behind : {Alloc : Type 0} → Option (Flow Alloc) → ℕ → Exit → ℕ
behind None values left = values
behind (Some flow) values left = resumed_by flow values left

-- the valuation with which a caller continues after the call at the point, from its own and what the call has
-- left
abbrev pub resumed_at : {Alloc : Type 0} → Graph Alloc → ℕ → ℕ → Exit → ℕ
resumed_at graph point values left = behind (slice_get (flows_of graph) point) values left

-- the variable that is called for, if any, is a global or one of this number of places
abbrev pub HasTarget : ℕ → Option Place → Type 0
HasTarget places None = Unit {0}
HasTarget places (Some (global i)) = Unit {0}
HasTarget places (Some (local i)) = i < places

-- If `values` is the number of a valuation with as many globals as the call has, and `left` are the numbers of what a
-- call leaves, `after` is the number of the valuation with which a caller continues that called for the target.
abbrev pub IsResumed : {Alloc : Type 0} → Call Alloc → ℕ → Exit → ℕ → Type 0
IsResumed call values left after =
    (valuation : Valuation) (exit_values : ExitValues) (target : Option Place) → length valuation.globals ≡ call.globals
    → length exit_values.globals ≡ call.globals
    → HasTarget (length valuation.places) target → call.target ≡ target_mask call.globals target
    → values ≡ code valuation → left ≡ exit_code exit_values → after ≡ code (resumed_with target valuation exit_values)
