-- Flow graphs of a program's procedures.
use Rattle.std.specs.Prelude.{◌≡◌, ℕ, suc, Option, Some, None, List, length, slice_get}
use Rattle.language.specs.Rest.{Code, target_of}
use Rattle.language.specs.Step.{Program, body_of}
use Rattle.language.specs.Sequential.{numbered, statements, Valuation, Calls, exit_of}
use Rattle.language.specs.Flow as steps
use Rattle.language.specs.Flow.{IsRestOf, after_first}
use Rattle.language.specs.Messages.{IsValuationOf, ArgumentsFit}
use Rattle.flow_graph.specs.Nodes.{point_at}
use Rattle.flow_graph.specs.Flows.{code, exit_code, Behaves}
use Rattle.flow_graph.specs.Returns.{left_by}
use Rattle.flow_graph.specs.declared.flow.Flow.{Flow}
use Rattle.flow_graph.specs.declared.graph.Graph.{Graph}
use Rattle.flow_graph.specs.Drawn.{flows_of, opening_point, globals_of}

-- a step inside the call, with this left to run, leads to the point and the valuation with this number
abbrev pub StepsToNumber : Program → ℕ → Code → Valuation → ℕ → ℕ → Type 0
StepsToNumber program procedure rest valuation point number =
    (after : Valuation) × (next_rest : Code) × steps.Flow program procedure valuation rest after next_rest × (point ≡ point_at next_rest)
    × (number ≡ code after)

-- a step, with this left to run, enters the callee with the valuation of number `entered`, and is back at the point
abbrev pub StepEnters : Program → Code → Valuation → ℕ → ℕ → ℕ → Type 0
StepEnters program rest valuation callee entered point =
    (argument : Valuation) × Calls program valuation.globals valuation.places rest callee argument × (entered ≡ code argument)
    × (point ≡ point_at (after_first rest))

-- The flow has the steps of the procedure when this is left to run: it leads where a step inside the call leads,
-- enters what a step enters, and continues after a call as the caller does.
abbrev pub HasSteps : {Alloc : Type 0} → Program → ℕ → Code → Flow Alloc → Type 0
HasSteps program procedure rest flow =
    Behaves flow (IsValuationOf program procedure) (StepsToNumber program procedure rest) (StepEnters program rest) (target_of rest)

-- there is a flow, and it has the property
abbrev pub AtFlow : {Alloc : Type 0} → Option (Flow Alloc) → (Flow Alloc → Type 0) → Type 0
AtFlow None P = ⊥
AtFlow (Some flow) P = P flow

-- The graph is that of the procedure: it starts at the first statement, has a point for each statement and the exit,
-- and at the point of each rest of the body the steps from there; and with each valuation it leaves what the procedure
-- leaves with that.
pub record IsGraph {Alloc : Type 0} (program : Program) (procedure : ℕ) (graph : Graph Alloc) : Type 0 where
  pub globals : globals_of graph ≡ program.globals
  pub start : opening_point graph ≡ point_at (body_of (slice_get program.routines procedure))
  pub points : length (flows_of graph) ≡ suc (statements (body_of (slice_get program.routines procedure)))
  pub steps : (rest : Code) → IsRestOf (body_of (slice_get program.routines procedure)) rest →
      AtFlow (slice_get (flows_of graph) (point_at rest)) (HasSteps program procedure rest)
  pub left : (valuation : Valuation) → IsValuationOf program procedure valuation
      → left_by graph (code valuation) ≡ exit_code (exit_of program procedure valuation)

-- the graphs are those of the program's procedures, by number
abbrev pub AreGraphs : {Alloc : Type 0} → Program → List (Graph Alloc) → Type 0
AreGraphs {Alloc} program graphs =
    (length graphs ≡ length program.routines)
    × ((number : ℕ) (graph : Graph Alloc) → slice_get graphs number ≡ Some graph → IsGraph program number graph)

-- the statements of each procedure are marked with their numbers in text order, from 1
abbrev pub IsInTextOrder : Program → Type 0
IsInTextOrder program = (number : ℕ) → (rest : Code) × (body_of (slice_get program.routines number) ≡ numbered 1 rest)

-- The graphs are those of a program that is marked in text order, in which each call has a place for each argument.
abbrev pub AreDrawnFrom : {Alloc : Type 0} → Program → List (Graph Alloc) → Type 0
AreDrawnFrom program graphs = ArgumentsFit program × IsInTextOrder program × AreGraphs program graphs
