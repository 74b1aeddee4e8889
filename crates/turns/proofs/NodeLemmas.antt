-- When nodes stand for the same stacks.
use Rattle.std.proofs.Common.{List, [], ◌∷◌}
use Rattle.turns.specs.Stacks.{Nodes, InNode, IsSimulation}

module _ {A B Frame : Type 0} (one : Nodes A Frame) (other : Nodes B Frame) (Under : A → B → Type 0)
    (simulates : IsSimulation one other Under) where
  -- a node that another simulates has no stack that the other has not
  pub no_more_stacks : (stack : List Frame) (q : A) (r : B) → Under q r → InNode one q stack → InNode other r stack
  no_more_stacks [] q r under bare = (simulates q r under).0 bare
  no_more_stacks (f ∷ fs) q r under (m, has, is) =
      let (n, has', under') = (simulates q r under).1 f m has in
      (n, has', no_more_stacks fs m n under' is)
