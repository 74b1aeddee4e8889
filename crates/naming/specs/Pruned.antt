-- Nodes of a turn without the heads that another head of the same node makes needless.
use Rattle.std.specs.Prelude.{◌≡◌, ◌⊎◌, ◌++◌, List, [], ◌∷◌}
use Rattle.language.specs.Lists.{Member}
use Rattle.stack_sets.specs.Within.{IsWithin}
use Rattle.stack_sets.specs.declared.node.Head.{Head}
use Rattle.stack_sets.specs.declared.node.Node.{Node}

module _ {Alloc : Type 0} (all : List (Node Alloc)) where
  -- Where nodes are given: the second head has the frame of the first, over a node that has all stacks of the one below
  -- the first.
  abbrev pub Covers : Head → Head → Type 0
  Covers head other = (other.frame ≡ head.frame) × IsWithin all head.below other.below

  -- some head does so
  abbrev pub IsCovered : Head → List Head → Type 0
  IsCovered head kept = (other : Head) × Member other kept × Covers head other

  -- the head is kept behind the others, or one of them covers it
  abbrev pub MayKeep : Head → List Head → List Head → Type 0
  MayKeep head old new = (new ≡ old ++ head ∷ []) ⊎ ((new ≡ old) × IsCovered head old)

  -- the second list has heads of the first alone, and one that covers each of them
  abbrev pub AreEnough : List Head → List Head → Type 0
  AreEnough heads kept =
      ((head : Head) → Member head kept → Member head heads) × ((head : Head) → Member head heads → IsCovered head kept)

  -- the second node is bare as the first is, and has enough of its heads
  abbrev pub IsPruned : Node Alloc → Node Alloc → Type 0
  IsPruned node pruned = (pruned.bare ≡ node.bare) × AreEnough node.heads.items pruned.heads.items

  -- the same of each node of the first list and the one at its place in the second
  abbrev pub ArePruned : List (Node Alloc) → List (Node Alloc) → Type 0
  ArePruned [] [] = Unit {0}
  ArePruned [] (y ∷ ys) = ⊥
  ArePruned (x ∷ xs) [] = ⊥
  ArePruned (x ∷ xs) (y ∷ ys) = IsPruned x y × ArePruned xs ys
