-- What a search begins with.
use Rattle.std.specs.Prelude.{◌≡◌, ◌↔◌, ℕ, List, [], map, length, slice_get}
use Rattle.language.specs.Lists.{Member}
use Rattle.flow_graph.specs.declared.graph.Graph.{Graph}
use Rattle.turns.specs.Numbered.{first_frame}
use Rattle.turns.specs.Stacks.{InNode}
use Rattle.turns.specs.declared.numbered_frame.NumberedFrame.{NumberedFrame}
use Rattle.stack_sets.specs.Nodes.{by_number}
use Rattle.stack_sets.specs.declared.node.Node.{Node}
use Rattle.stack_sets.specs.Turns.{AreWhole}
use Rattle.exploration.specs.declared.tuple.Tuple.{Tuple}
use Rattle.exploration.specs.Met.{Stacks, AreHeld}

-- the stack of a thread of this procedure before its first step
abbrev pub first_stack : {G : Type 0} → List (Graph G) → ℕ → List NumberedFrame
first_stack graphs procedure = first_frame graphs procedure (slice_get graphs procedure)

module _ {Alloc : Type 0} (nodes : List (Node Alloc)) where
  -- the node has this stack and no other
  abbrev pub IsAlone : ℕ → List NumberedFrame → Type 0
  IsAlone n stack = (other : List NumberedFrame) → InNode (by_number nodes) n other ↔ (other ≡ stack)

  -- Each head lies over a node that is there, which has some stack; and the first node has the empty stack alone.
  pub record AreBegun : Type 0 where
    pub whole : AreWhole nodes
    pub bottom : IsAlone 0 []

  -- The tuple is before the first turn, has globals of 0, and each of its nodes has some stack; those of the threads
  -- have their first stacks alone.
  pub record IsFirstTuple {G : Type 0} (graphs : List (Graph G)) (procedures : List ℕ) (t : Tuple) : Type 0 where
    pub globals : t.globals ≡ 0
    pub thread : t.thread ≡ 0
    pub places : length t.nodes ≡ 8
    pub full : (q : ℕ) → Member q t.nodes → (stack : List NumberedFrame) × InNode (by_number nodes) q stack
    pub held : AreHeld nodes (map (first_stack graphs) procedures) t.nodes
    pub only : (stacks : Stacks) → length stacks ≡ length procedures → AreHeld nodes stacks t.nodes
        → stacks ≡ map (first_stack graphs) procedures
