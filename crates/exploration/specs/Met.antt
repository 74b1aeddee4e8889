-- What tuples stand for, and which are added.
use Rattle.std.specs.Prelude.{◌≡◌, ◌++◌, ℕ, List, [], ◌∷◌, length, slice_set}
use Rattle.language.specs.Lists.{Member}
use Rattle.turns.specs.Stacks.{InNode}
use Rattle.turns.specs.declared.numbered_frame.NumberedFrame.{NumberedFrame}
use Rattle.stack_sets.specs.Nodes.{by_number}
use Rattle.stack_sets.specs.declared.node.Node.{Node}
use Rattle.stack_sets.specs.declared.turn.Ending as stack_sets
use Rattle.exploration.specs.declared.tuple.Tuple.{Tuple}

-- what a turn can end with
abbrev pub Ending : Type 0
Ending = stack_sets.Ending

-- the stacks of several threads, in the order of their turns
abbrev pub Stacks : Type 0
Stacks = List (List NumberedFrame)

-- The one list goes on as the other does not, with tuples for which P holds.
abbrev pub Adds : (Tuple → Type 0) → List Tuple → List Tuple → Type 0
Adds P old new = (more : List Tuple) × (new ≡ old ++ more) × ((t : Tuple) → Member t more → P t)

-- the tuple after the turn of its next thread with this ending, before the turn of another thread
abbrev pub after_turn : Tuple → ℕ → Ending → Tuple
after_turn tuple thread ending = record {
  globals = ending.globals;
  thread = thread;
  nodes = slice_set tuple.nodes tuple.thread ending.node;
}

-- the tuple that has this node in one place, and else is the same
abbrev pub with_node : Tuple → ℕ → ℕ → Tuple
with_node tuple at node = record { globals = tuple.globals; thread = tuple.thread; nodes = slice_set tuple.nodes at node }

module _ {Alloc : Type 0} (nodes : List (Node Alloc)) where
  -- each stack is in the node at its place
  abbrev pub AreHeld : Stacks → List ℕ → Type 0
  AreHeld [] qs = Unit {0}
  AreHeld (stack ∷ stacks) [] = ⊥
  AreHeld (stack ∷ stacks) (q ∷ qs) = InNode (by_number nodes) q stack × AreHeld stacks qs

  -- some tuple before the same thread's turn has the same globals, and nodes of all stacks that this one has
  abbrev pub IsCovered : List Tuple → Tuple → Type 0
  IsCovered tuples t =
      (other : Tuple) × Member other tuples × (other.thread ≡ t.thread) × (other.globals ≡ t.globals)
      × ((stacks : Stacks) → AreHeld stacks t.nodes → AreHeld stacks other.nodes)

  -- some tuple before the turn of this thread has these globals, and nodes of these stacks
  abbrev pub IsMet : List Tuple → ℕ → ℕ → Stacks → Type 0
  IsMet tuples thread globals stacks =
      (t : Tuple) × Member t tuples × (t.thread ≡ thread) × (t.globals ≡ globals) × AreHeld stacks t.nodes

  -- Some tuple has these globals, and nodes of the stacks of the threads that have had their turn of a round and of
  -- those that have not. Where none is left, it is before the next round.
  abbrev pub AreMet : List Tuple → ℕ → Stacks → Stacks → Type 0
  AreMet tuples globals had [] = IsMet tuples 0 globals had
  AreMet tuples globals had (stack ∷ left) = IsMet tuples (length had) globals (had ++ stack ∷ left)
