-- What a turn over sets of stacks comes to.
use Rattle.std.specs.Prelude.{◌<◌, ℕ, List, length}
use Rattle.language.specs.Lists.{Member}
use Rattle.flow_graph.specs.Drawn.{graphs_of}
use Rattle.flow_graph.specs.Asserted.{fails_at}
use Rattle.flow_graph.specs.declared.asserts.Asserts.{Asserts}
use Rattle.flow_graph.specs.declared.graph.Graphs.{Graphs}
use Rattle.turns.specs.Machines.{Machine}
use Rattle.turns.specs.Numbered.{numbered_machine}
use Rattle.turns.specs.Stacks.{InNode, NoneVacant}
use Rattle.turns.specs.Turn.{TurnEnds}
use Rattle.turns.specs.declared.numbered_frame.NumberedFrame.{NumberedFrame}
use Rattle.stack_sets.specs.Nodes.{by_number}
use Rattle.stack_sets.specs.declared.node.Node.{Node}
use Rattle.stack_sets.specs.declared.turn.Ending.{Ending}

-- what the top frame of a thread does, by these graphs and asserts
abbrev pub machine_by : {Alloc : Type 0} → Graphs Alloc → Asserts Alloc → Machine ℕ NumberedFrame
machine_by graphs asserts = numbered_machine (graphs_of graphs) (fails_at asserts)

-- these globals, with the stacks of this node
abbrev pub ending : ℕ → ℕ → Ending
ending globals node = record { globals = globals; node = node }

-- Each head lies over a node that is there, which has some stack.
pub record AreWhole {Alloc : Type 0} (nodes : List (Node Alloc)) : Type 0 where
  pub within : (q : ℕ) (f : NumberedFrame) (r : ℕ) → (by_number nodes).Has q f r → r < length nodes
  pub full : NoneVacant (by_number nodes)

-- The endings are those of a turn from these globals and this node: each has only stacks with which the turn can end,
-- and each stack with which it can end is in one with its globals.
pub record AreEndings {Alloc : Type 0} (machine : Machine ℕ NumberedFrame) (before after : List (Node Alloc)) (globals node : ℕ)
    (endings : List Ending) : Type 0 where
  pub only : (h m : ℕ) (stack : List NumberedFrame) → Member (ending h m) endings → InNode (by_number after) m stack
      → TurnEnds machine (by_number before) globals node h stack
  pub all : (h : ℕ) (stack : List NumberedFrame) → TurnEnds machine (by_number before) globals node h stack
      → (m : ℕ) × Member (ending h m) endings × InNode (by_number after) m stack
  pub within : (h m : ℕ) → Member (ending h m) endings → m < length after
  pub some : (h m : ℕ) → Member (ending h m) endings → (stack : List NumberedFrame) × InNode (by_number after) m stack
