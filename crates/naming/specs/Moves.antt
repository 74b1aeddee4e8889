-- The final numbers of a turn's nodes, and the nodes whose heads lie over what has them.
use Rattle.std.specs.Prelude.{◌≡◌, ◌<◌, ◌≤◌, ◌+◌, ◌++◌, ◌⊎◌, ℕ, zero, Option, Some, None, List, [], ◌∷◌, length, slice_get}
use Rattle.language.specs.Lists.{Member}
use Rattle.turns.specs.declared.numbered_frame.NumberedFrame.{NumberedFrame}
use Rattle.stack_sets.specs.Nodes.{IsNumbered, by_number, head_over}
use Rattle.stack_sets.specs.declared.node.Head.{Head}
use Rattle.stack_sets.specs.declared.node.Node.{Node}

-- the node at an index has this final number, where all have one
abbrev pub IsNumber : List ℕ → ℕ → ℕ → Type 0
IsNumber names i n = slice_get names i ≡ Some n

-- the same where some have none yet
abbrev pub HasNumber : List (Option ℕ) → ℕ → ℕ → Type 0
HasNumber names i n = slice_get names i ≡ Some (Some n)

-- what has a number keeps it
abbrev pub KeepsNumbers : List (Option ℕ) → List (Option ℕ) → Type 0
KeepsNumbers old new = (i n : ℕ) → HasNumber old i n → HasNumber new i n

-- none has a number
abbrev pub NoneHas : List (Option ℕ) → Type 0
NoneHas names = (i n : ℕ) → HasNumber names i n → ⊥

-- Where final numbers are given: this is the one of a node. A node from before keeps its own, and the others have that
-- of their index.
abbrev pub IsMoved : ℕ → (ℕ → ℕ → Type 0) → ℕ → ℕ → Type 0
IsMoved base Is m n = ((m < base) × (n ≡ m)) ⊎ ((i : ℕ) × (m ≡ base + i) × Is i n)

-- the frames are the same, each over the final number of what it lay over, in whatever order
abbrev pub AreMoved : ℕ → (ℕ → ℕ → Type 0) → List Head → List Head → Type 0
AreMoved base Is xs ys =
    ((f : NumberedFrame) (m : ℕ) → Member (head_over f m) xs → (n : ℕ) × Member (head_over f n) ys × IsMoved base Is m n)
    × ((f : NumberedFrame) (n : ℕ) → Member (head_over f n) ys → (m : ℕ) × Member (head_over f m) xs × IsMoved base Is m n)

module _ {Alloc : Type 0} where
  -- the heads of the node lie over nodes with smaller numbers
  abbrev pub ReachesBelow : ℕ → Node Alloc → Type 0
  ReachesBelow bound node = (f : NumberedFrame) (r : ℕ) → Member (head_over f r) node.heads.items → r < bound

  -- the same of each node
  abbrev pub ReachBelow : ℕ → List (Node Alloc) → Type 0
  ReachBelow bound nodes = (i : ℕ) (f : NumberedFrame) (r : ℕ) → (by_number nodes).Has i f r → r < bound

module _ {Alloc : Type 0} (base : ℕ) (Is : ℕ → ℕ → Type 0) where
  -- the other is the node over final numbers
  abbrev pub IsMovedNode : Node Alloc → Node Alloc → Type 0
  IsMovedNode node moved = (moved.bare ≡ node.bare) × AreMoved base Is node.heads.items moved.heads.items

  -- the node of this number among those that are there is the node over final numbers
  abbrev pub IsKept : List (Node Alloc) → Node Alloc → ℕ → Type 0
  IsKept there node n = (heads : List Head) × AreMoved base Is node.heads.items heads × IsNumbered there n node.bare heads

  -- Each node that is done is kept, and each head that was added lies over the final number of what a head of the turn
  -- lies over.
  pub record AreKept (Done : ℕ → ℕ → Type 0) (nodes there : List (Node Alloc)) : Type 0 where
    pub kept : (i n : ℕ) → Done i n → (node : Node Alloc) × (slice_get nodes i ≡ Some node) × IsKept there node n
    pub moved : (q : ℕ) (f : NumberedFrame) (r : ℕ) → base ≤ q → (by_number there).Has q f r
        → (i : ℕ) × (m : ℕ) × (by_number nodes).Has i f m × IsMoved base Is m r

  -- the node over final numbers is added if it had no number
  abbrev pub MayAddMoved : Node Alloc → Option ℕ → List (Node Alloc) → List (Node Alloc) → Type 0
  MayAddMoved node (Some n) old new = new ≡ old
  MayAddMoved node None old new = (moved : Node Alloc) × IsMovedNode node moved × (new ≡ old ++ moved ∷ [])

-- if the node at an index has a number, it is the one with that number among those that are there, over final numbers
abbrev pub IsKeptAt : {Alloc : Type 0} → ℕ → List (Option ℕ) → List (Node Alloc) → List (Node Alloc) → ℕ → Type 0
IsKeptAt {Alloc} base names nodes there i = (n : ℕ) → HasNumber names i n
    → (node : Node Alloc) × (slice_get nodes i ≡ Some node) × IsKept base (HasNumber names) there node n

-- the same at each index
abbrev pub AreAllKept : {Alloc : Type 0} → ℕ → List (Option ℕ) → List (Node Alloc) → List (Node Alloc) → Type 0
AreAllKept base names nodes there = (i : ℕ) → IsKeptAt base names nodes there i

-- the nodes that have numbers are kept
abbrev pub HaveNumbers : {Alloc : Type 0} → ℕ → List (Node Alloc) → List (Option ℕ) → List (Node Alloc) → Type 0
HaveNumbers base nodes names there =
    (length names ≡ length nodes) × AreKept base (HasNumber names) (HasNumber names) nodes there

-- the number, and the next that is free then
abbrev pub IsFilled : Option ℕ → ℕ → ℕ → ℕ → Type 0
IsFilled (Some m) old n new = (n ≡ m) × (new ≡ old)
IsFilled None old n new = (n ≡ old) × (new ≡ old + 1)

-- all numbers, where those that were missing are the next in order
abbrev pub filled : ℕ → List (Option ℕ) → List ℕ
filled next [] = []
filled next (Some n ∷ names) = n ∷ filled next names
filled next (None ∷ names) = next ∷ filled (next + 1) names

-- how many are missing
abbrev pub missing : List (Option ℕ) → ℕ
missing [] = zero
missing (Some n ∷ names) = missing names
missing (None ∷ names) = missing names + 1
