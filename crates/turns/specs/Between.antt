-- Where a run of several threads in rounds is between two turns (after the bound on contexts of Qadeer and Rehof 2005;
-- here the bound is on rounds).
use Rattle.std.specs.Prelude.{ℕ, zero, suc, ◌<◌, List, [], ◌∷◌, ◌++◌}
use Rattle.turns.specs.Machines.{Machine, Runs, TurnFails}

-- several threads that share globals: what each does, the globals at first, and the stack of each thread at first, in
-- the order of their turns
pub record Threads (Globals Frame : Type 0) : Type 1 where
  pub machine : Machine Globals Frame
  pub globals : Globals
  pub stacks : List (List Frame)

-- After this number of rounds, with these globals, threads with these stacks have had their turn of the next round, and
-- threads with those have not.
pub data Between {Globals Frame : Type 0} (threads : Threads Globals Frame) : ℕ → Globals → List (List Frame) → List (List Frame)
    → Type 0 where
  begins : Between threads zero threads.globals [] threads.stacks
  takes_turn : (r : ℕ) (g h : Globals) (had : List (List Frame)) (stack stack' : List Frame) (left : List (List Frame))
      → Between threads r g had (stack ∷ left) → Runs threads.machine g stack h stack' → Between threads r h (had ++ stack' ∷ []) left
  ends_round : (r : ℕ) (g : Globals) (had : List (List Frame)) → Between threads r g had [] → Between threads (suc r) g [] had

-- in some round below k a turn fails
abbrev pub FailsBelow : {Globals Frame : Type 0} → Threads Globals Frame → ℕ → Type 0
FailsBelow {Globals} {Frame} threads k =
    (r : ℕ) × (r < k) × (g : Globals) × (had : List (List Frame)) × (stack : List Frame) × (left : List (List Frame))
    × Between threads r g had (stack ∷ left) × TurnFails threads.machine g stack
