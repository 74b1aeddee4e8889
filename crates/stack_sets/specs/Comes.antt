-- What a turn from globals and a node comes to.
use Rattle.std.specs.Prelude.{◌≤◌, ◌+◌, ℕ, List, length}
use Rattle.turns.specs.Machines.{Machine}
use Rattle.turns.specs.Turn.{SomeStackFails}
use Rattle.turns.specs.declared.numbered_frame.NumberedFrame.{NumberedFrame}
use Rattle.stack_sets.specs.Nodes.{by_number}
use Rattle.stack_sets.specs.Turns.{AreEndings}
use Rattle.stack_sets.specs.declared.node.Node.{Node}
use Rattle.stack_sets.specs.declared.turn.Turn.{Turn}
use Rattle.stack_sets.specs.declared.turn.Turn.TheVariants.{Fails, Ends}

-- A turn fails if it can fail from some stack of the node. Else its endings are those of all its stacks, in the nodes
-- after it.
abbrev pub ComesTo : {Alloc : Type 0} → Machine ℕ NumberedFrame → List (Node Alloc) → List (Node Alloc) → ℕ → ℕ → Turn Alloc → Type 0
ComesTo machine before after globals node Fails = SomeStackFails machine (by_number before) globals node
ComesTo machine before after globals node (Ends endings) =
    AreEndings machine before after globals node endings.items × (SomeStackFails machine (by_number before) globals node → ⊥)

-- A turn that ends has taken one from the work that was left for each of its endings, or more.
abbrev pub Takes : {Alloc : Type 0} → ℕ → ℕ → Turn Alloc → Type 0
Takes old new Fails = new ≤ old
Takes old new (Ends endings) = new + length endings.items ≤ old
