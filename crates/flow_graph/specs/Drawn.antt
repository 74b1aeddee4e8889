-- What callers see of flow graphs.
use Rattle.std.specs.Prelude.{ℕ, List}
use Rattle.flow_graph.specs.Calls.{call_entry, resumed}
use Rattle.flow_graph.specs.declared.call.Call.{Call}
use Rattle.flow_graph.specs.declared.flow.Flow.{Flow}
use Rattle.flow_graph.specs.declared.graph.Graph.{Graph}
use Rattle.flow_graph.specs.declared.graph.Graphs.{Graphs}
use Rattle.flow_graph.specs.declared.exit.Exit.{Exit}

-- what leads on from each point, the exit first
abbrev pub flows_of : {Alloc : Type 0} → Graph Alloc → List (Flow Alloc)
flows_of graph = graph.flows.items

-- the point where a run begins
abbrev pub opening_point : {Alloc : Type 0} → Graph Alloc → ℕ
opening_point graph = graph.start

-- how many globals there are
abbrev pub globals_of : {Alloc : Type 0} → Graph Alloc → ℕ
globals_of graph = graph.globals

-- the bit of the result, alone; 0 if the procedure gives none
abbrev pub result_mask : {Alloc : Type 0} → Graph Alloc → ℕ
result_mask graph = graph.result

-- the graphs by the numbers of their procedures
abbrev pub graphs_of : {Alloc : Type 0} → Graphs Alloc → List (Graph Alloc)
graphs_of graphs = graphs.graphs.items

-- the bit of `bad__`
abbrev pub bad_of : {Alloc : Type 0} → Graphs Alloc → ℕ
bad_of graphs = graphs.bad

-- the number of the procedure that is called
abbrev pub called_procedure : {Alloc : Type 0} → Call Alloc → ℕ
called_procedure call = call.callee

-- the point after the call
abbrev pub back_of : {Alloc : Type 0} → Call Alloc → ℕ
back_of call = call.back

-- the valuation with which the procedure is entered from a caller's
abbrev pub entered_from : {Alloc : Type 0} → Call Alloc → ℕ → ℕ
entered_from call values = call_entry call.globals call.arguments.items values

-- the valuation with which the caller continues from its own after a call that has left this
abbrev pub resumed_from : {Alloc : Type 0} → Call Alloc → ℕ → Exit → ℕ
resumed_from call values left = resumed call.globals call.target values left
