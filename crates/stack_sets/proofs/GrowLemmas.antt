-- Nodes that are added do not change the stacks of those that were there.
use Rattle.std.proofs.Common.{◌≡◌, ◌<◌, ◌+◌, ◌∙◌, ℕ, true, List, [], ◌∷◌, ◌++◌, length, sym, ap, subst, arith}
use Rattle.std.proofs.lemmas.List.{length-append}
use Rattle.language.specs.Lists.{Member}
use Rattle.turns.specs.Stacks.{InNode}
use Rattle.turns.specs.declared.numbered_frame.NumberedFrame.{NumberedFrame}
use Rattle.stack_sets.proofs.PlaceLemmas.{at_left, at_before, at_within}
use Rattle.stack_sets.specs.Nodes.{by_number, head_over, IsPrefix}
use Rattle.stack_sets.specs.Turns.{AreWhole}
use Rattle.stack_sets.specs.Within.{AreWithin}
use Rattle.stack_sets.specs.declared.inclusions.Pair.{Pair}
use Rattle.stack_sets.specs.declared.node.Node.{Node}

module _ {Alloc : Type 0} where
  -- a node that has a stack is there
  pub in_within : (nodes : List (Node Alloc)) (q : ℕ) (stack : List NumberedFrame) → InNode (by_number nodes) q stack → q < length nodes
  in_within nodes q [] bare = at_within (λ node. node.bare ≡ true) nodes q bare
  in_within nodes q (f ∷ fs) (m, has, is) = at_within (λ node. Member (head_over f m) node.heads.items) nodes q has

  in_more : (old more : List (Node Alloc)) (stack : List NumberedFrame) (q : ℕ) → InNode (by_number old) q stack
      → InNode (by_number (old ++ more)) q stack
  in_more old more [] q bare = at_left (λ node. node.bare ≡ true) old more q bare
  in_more old more (f ∷ fs) q (m, has, is) =
      (m, at_left (λ node. Member (head_over f m) node.heads.items) old more q has, in_more old more fs m is)

  in_fewer : (old more : List (Node Alloc)) → AreWhole old → (stack : List NumberedFrame) (q : ℕ) → q < length old
      → InNode (by_number (old ++ more)) q stack → InNode (by_number old) q stack
  in_fewer old more whole [] q small bare = at_before (λ node. node.bare ≡ true) old more q small bare
  in_fewer old more whole (f ∷ fs) q small (m, has, is) =
      let here : (by_number old).Has q f m = at_before (λ node. Member (head_over f m) node.heads.items) old more q small has in
      (m, here, in_fewer old more whole fs m (whole.within q f m here) is)

  -- a stack stays in a node
  pub in_later : (old new : List (Node Alloc)) → IsPrefix old new → (q : ℕ) (stack : List NumberedFrame) → InNode (by_number old) q stack
      → InNode (by_number new) q stack
  in_later old new (more, e) q stack is = subst (λ z. InNode (by_number z) q stack) (sym e) (in_more old more stack q is)

  -- and none comes to it
  pub in_before : (old new : List (Node Alloc)) → IsPrefix old new → AreWhole old → (q : ℕ) (stack : List NumberedFrame) → q < length old
      → InNode (by_number new) q stack → InNode (by_number old) q stack
  in_before old new (more, e) whole q stack small is =
      in_fewer old more whole stack q small (subst (λ z. InNode (by_number z) q stack) e is)

  -- and pairs of nodes stay such
  pub within_later : (old new : List (Node Alloc)) → IsPrefix old new → AreWhole old → (pairs : List Pair) → AreWithin old pairs
      → AreWithin new pairs
  within_later old new (more, e) whole pairs are p m =
      let (small, is) = are p m in
      let long : length new ≡ length old + length more = ap length e ∙ length-append old more in (
        omega (arith, small, long),
        λ stack inside. in_later old new (more, e) p.over stack (is stack (in_before old new (more, e) whole p.under stack small inside)),
      )
