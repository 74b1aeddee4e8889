-- Sets of stacks, as nodes: a stack is in a node if the node has a head with its top frame, over a node that has what
-- lies below (after the automata of Bouajjani, Esparza and Maler 1997).
use Rattle.std.specs.Prelude.{List, [], ◌∷◌}

-- Some nodes: which have the empty stack, and which heads each has, a frame over a node.
pub record Nodes (Name Frame : Type 0) : Type 1 where
  pub Bare : Name → Type 0
  pub Has : Name → Frame → Name → Type 0

-- the stack is in the node
abbrev pub InNode : {Name Frame : Type 0} → Nodes Name Frame → Name → List Frame → Type 0
InNode nodes name [] = nodes.Bare name
InNode {Name} nodes name (top ∷ below) = (next : Name) × nodes.Has name top next × InNode nodes next below

-- The relation is a simulation: whatever the one node has, the other has too, over a node to which the relation leads
-- on. The two may be nodes of one kind, or of two.
abbrev pub IsSimulation : {A B Frame : Type 0} → Nodes A Frame → Nodes B Frame → (A → B → Type 0) → Type 0
IsSimulation {A} {B} {Frame} one other Under = (q : A) (r : B) → Under q r →
    (one.Bare q → other.Bare r)
    × ((f : Frame) (m : A) → one.Has q f m → (n : B) × other.Has r f n × Under m n)

-- some stack lies below each head
abbrev pub NoneVacant : {Name Frame : Type 0} → Nodes Name Frame → Type 0
NoneVacant {Name} {Frame} nodes = (q : Name) (f : Frame) (r : Name) → nodes.Has q f r → (stack : List Frame) × InNode nodes r stack
