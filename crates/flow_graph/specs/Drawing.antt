-- The graph that is drawn of a procedure.
use Rattle.std.specs.Prelude.{◌≡◌, ◌≤◌, ◌∷◌, ◌++◌, Bool, false, List, length, map, option_map}
use Rattle.language.specs.Step.{Routine}
use Rattle.language.specs.Sequential.{numbered_routine}
use Rattle.language.specs.Resolve.{Scope, scope_of, routine_of, resolve_side}
use Rattle.trees.specs.Trees.{tree_of, proc_of}
use Rattle.trees.specs.declared.tree.Program.{Program}
use Rattle.trees.specs.declared.tree.Proc.{Proc}
use Rattle.flow_graph.specs.Bits.{coded}
use Rattle.flow_graph.specs.Nodes.{point_at, nodes_of}
use Rattle.flow_graph.specs.Asserted.{asserts_in, is_refuted, may_be_0}
use Rattle.flow_graph.specs.Flows.{widths_of, AllDo}
use Rattle.flow_graph.specs.Located.{given_mask}
use Rattle.flow_graph.specs.declared.asserts.ProcedureAsserts.{ProcedureAsserts}
use Rattle.flow_graph.specs.declared.graph.Graph.{Graph}
use Rattle.resolved.specs.Limits.{most_places}
use Rattle.resolved.specs.Narrow.{width}
use Rattle.flow_graph.specs.Drawn.{flows_of, opening_point, globals_of, result_mask}

-- the procedure's valuations fit a word, and there are at most 32 procedures
abbrev pub ScopeHasRoom : {TreeAlloc : Type 0} → Program TreeAlloc → Proc TreeAlloc → Type 0
ScopeHasRoom program procedure =
    (width (tree_of program) (proc_of procedure) ≤ most_places) × (length program.procs.items ≤ 32)

-- the names in the procedure's scope
abbrev pub names_in : {TreeAlloc : Type 0} → Program TreeAlloc → Proc TreeAlloc → Scope
names_in program procedure = scope_of (tree_of program) (proc_of procedure)

-- the procedure by places, its statements marked with their numbers in text order, from 1
abbrev pub drawn_routine : {TreeAlloc : Type 0} → Program TreeAlloc → Proc TreeAlloc → Routine
drawn_routine program procedure = numbered_routine (routine_of (tree_of program) (proc_of procedure))

-- The graph of the procedure: it begins where the body does, its flows do what happens at the points of the body, the
-- exit first, and its mask is that of the result.
abbrev pub IsGraphOf : {TreeAlloc Alloc : Type 0} → Program TreeAlloc → Proc TreeAlloc → Graph Alloc → Type 0
IsGraphOf program procedure graph =
    let routine = drawn_routine program procedure in
    (globals_of graph ≡ length (names_in program procedure).globals) × (opening_point graph ≡ point_at routine.body)
    × AllDo (flows_of graph) (nodes_of routine) (widths_of (names_in program procedure) routine.gives)
    × (result_mask graph ≡ given_mask (length (names_in program procedure).globals) routine)

-- The asserts of the procedure: for every valuation of as many globals as the program has, they say of each point, the
-- exit first, whether 0 is a value of what is asserted there.
abbrev pub AreAssertsIn : {TreeAlloc Alloc : Type 0} → Program TreeAlloc → Proc TreeAlloc → ProcedureAsserts Alloc → Type 0
AreAssertsIn program procedure asserts =
    let scope = names_in program procedure in
    (globals places : List Bool) → length globals ≡ length scope.globals →
    map (λ side. may_be_0 side (coded (globals ++ places))) asserts.sides.items
    ≡ false ∷ map (λ asserted. is_refuted globals places (option_map (resolve_side scope) asserted)) (asserts_in (proc_of procedure).body)
