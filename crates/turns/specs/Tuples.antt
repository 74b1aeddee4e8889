-- Globals with a node for each thread, which stand for the globals with a stack of each node.
use Rattle.std.specs.Prelude.{ℕ, zero, suc, ◌<◌, ◌≤◌, List, [], ◌∷◌, ◌++◌}
use Rattle.language.specs.Lists.{Member}
use Rattle.turns.specs.Machines.{Runs, TurnFails}
use Rattle.turns.specs.Stacks.{Nodes, InNode}
use Rattle.turns.specs.Between.{Threads, Between}

-- each stack is in the node at its place
abbrev pub AreIn : {Name Frame : Type 0} → Nodes Name Frame → List Name → List (List Frame) → Type 0
AreIn nodes [] [] = Unit {0}
AreIn nodes [] (stack ∷ stacks) = ⊥
AreIn nodes (q ∷ qs) [] = ⊥
AreIn nodes (q ∷ qs) (stack ∷ stacks) = InNode nodes q stack × AreIn nodes qs stacks

-- which tuples are met after a number of rounds: the globals, the nodes of the threads that have had their turn of the
-- next round, and those of the others
abbrev pub Meeting : Type 0 → Type 0 → Type 1
Meeting Name Globals = ℕ → Globals → List Name → List Name → Type 0

module _ {Name Globals Frame : Type 0} (threads : Threads Globals Frame) (nodes : Nodes Name Frame) (Met : Meeting Name Globals) where
  -- these globals and stacks are those of a tuple that is met
  abbrev pub Covered : ℕ → Globals → List (List Frame) → List (List Frame) → Type 0
  Covered r g had left = (qs : List Name) × (rs : List Name) × Met r g qs rs × AreIn nodes qs had × AreIn nodes rs left

  -- The start is covered, and so is what each turn of a tuple that is met below round k can end with; and nothing is
  -- lost between rounds.
  pub record IsClosedBelow (k : ℕ) : Type 0 where
    pub begins : Covered zero threads.globals [] threads.stacks
    pub turns : (r : ℕ) (g h : Globals) (qs : List Name) (q : Name) (rs : List Name) (had : List (List Frame)) (stack stack' : List Frame)
        (left : List (List Frame)) → r < k → Met r g qs (q ∷ rs) → AreIn nodes qs had → InNode nodes q stack → AreIn nodes rs left
        → Runs threads.machine g stack h stack' → Covered r h (had ++ stack' ∷ []) left
    pub rounds : (r : ℕ) (g : Globals) (qs : List Name) (had : List (List Frame)) → suc r < k → Met r g qs [] → AreIn nodes qs had
        → Covered (suc r) g [] had

  -- no turn of a tuple that is met below round k fails
  abbrev pub NoneFailsBelow : ℕ → Type 0
  NoneFailsBelow k = (r : ℕ) (g : Globals) (qs : List Name) (q : Name) (rs : List Name) (stack : List Frame) → r < k → Met r g qs (q ∷ rs)
      → InNode nodes q stack → TurnFails threads.machine g stack → ⊥

  -- what a tuple stands for is reached, perhaps after fewer rounds
  abbrev pub AreReached : Type 0
  AreReached = (r : ℕ) (g : Globals) (qs rs : List Name) (had left : List (List Frame)) → Met r g qs rs → AreIn nodes qs had
      → AreIn nodes rs left → (r' : ℕ) × (r' ≤ r) × Between threads r' g had left

  -- some turn of a tuple that is met below round k fails
  abbrev pub SomeFailsBelow : ℕ → Type 0
  SomeFailsBelow k =
      (r : ℕ) × (g : Globals) × (qs : List Name) × (q : Name) × (rs : List Name) × (had : List (List Frame)) × (stack : List Frame)
      × (left : List (List Frame)) × (r < k) × Met r g qs (q ∷ rs) × AreIn nodes qs had × InNode nodes q stack × AreIn nodes rs left
      × TurnFails threads.machine g stack

-- a tuple with the number of rounds after which it is met: its globals, and the nodes of the threads that have had
-- their turn of the next round, and those of the others
pub record MetTuple (Name Globals : Type 0) : Type 0 where
  pub rounds : ℕ
  pub globals : Globals
  pub had : List Name
  pub left : List Name

-- the tuples of a list that are met after this number of rounds or fewer
abbrev pub met_by : {Name Globals : Type 0} → List (MetTuple Name Globals) → Meeting Name Globals
met_by tuples = λ r g qs rs. (n : ℕ) × (n ≤ r) × Member (record { rounds = n; globals = g; had = qs; left = rs }) tuples

-- the tuples of a list, whatever the round
abbrev pub settled : {Name Globals : Type 0} → List (MetTuple Name Globals) → Meeting Name Globals
settled tuples = λ r g qs rs. (n : ℕ) × Member (record { rounds = n; globals = g; had = qs; left = rs }) tuples
