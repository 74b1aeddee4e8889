-- Statements of a procedure lowered, by what each does.
use Rattle.std.proofs.Common.{◌≡◌, ℕ, suc, ◌+◌, List, [], ◌∷◌, length, refl, sym, ◌∙◌, ap, subst, arith}
use Rattle.std.proofs.Common.{◌++◌, length-append}
use Rattle.std.specs.Prelude.{Result, Ok, IfOk}
use Rattle.language.specs.Tree as tree
use Rattle.language.specs.Tree.{one, loop}
use Rattle.language.specs.Resolve.{resolve_mark, resolve_simple, resolve_side, resolve_block}
use Rattle.language.specs.Rest.{Code}
use Rattle.language.specs.Sequential.{statements, numbered, marked}
use Rattle.trees.specs.declared.tree.Stmt.{Stmt}
use Rattle.trees.specs.Trees.{simple, branch, repeat, item_of, deed_of, rhs_of, block_of}
use Rattle.trees.specs.declared.tree.Rhs.{Rhs}
use Rattle.trees.proofs.Held.{held}
use Rattle.trees.proofs.Folds.{item_deed}
use Rattle.flow_graph.specs.Nodes.{Node, point_at, node_of, tests}
use Rattle.flow_graph.specs.Points.{BeginAt}
use Rattle.flow_graph.specs.Flows.{Lowered}
use Rattle.flow_graph.specs.Lowering.{lowering_scope, lowered_routine, lowered_widths, side_in, IsCounted}
use Rattle.flow_graph.specs.Lowering.{DoesIn, DoesFirst, LoweredFirst, LoweredIn}
use Rattle.flow_graph.specs.declared.flow.Flow.{Flow}
use Rattle.flow_graph.specs.declared.lowering.Lowering.{Lowering}
use Rattle.flow_graph.proofs.CountLemmas.{alone_counts}
use Rattle.flow_graph.proofs.LoweringLemmas.{node_simple, node_branch, node_repeat}
use Rattle.flow_graph.proofs.LoweringLemmas.{nodes_simple, nodes_branch, nodes_repeat, lowered_then, lowered_one}

-- statements, and their number, by other names
pub moved : {N : Type 0} (xs ys : List (Stmt N)) (i j after to : ℕ) → xs ≡ ys → i ≡ j → BeginAt xs i after to →
    BeginAt ys j after to
moved xs ys i j after to same at begin =
    subst (λ z. BeginAt z j after to) same (subst (λ m. BeginAt xs m after to) at begin)

module _ {N A : Type 0} (l : Lowering N A) (stmt : Stmt N) (after : ℕ) where
  -- the flow of the statement is appended to others, of which there are as many as its number says
  pub put_first : {E : Type 0} (n : ℕ) (old new : List (Flow A)) (made : Result (Flow A) E) →
      IfOk made (λ f. DoesFirst l f stmt n after) → (f : Flow A) × (made ≡ Ok f) × (new ≡ old ++ f ∷ []) →
      n ≡ length old → LoweredFirst l old new stmt after
  put_first n old new made does (f, is, pushed) at =
      let here = subst (λ r. IfOk r (λ x. DoesFirst l x stmt n after)) is does in
      (f, pushed, subst (λ m. DoesFirst l f stmt m after) at here)

  -- a statement with none inside of it, whose node depends on the point after it
  pub does_simple : (n : ℕ) (c : tree.Simple tree.Name tree.Name tree.Name) (node : ℕ → Node) →
      deed_of stmt.core ≡ simple c →
      ((k : Code) → node_of (lowered_routine l)
      (one (marked n (resolve_mark (item_of stmt).mark)) (resolve_simple (lowering_scope l) c) k) ≡ node (point_at k)) →
      (f : Flow A) → DoesIn l f (node after) → DoesFirst l f stmt n after
  does_simple n c node is same f does k at_k few =
      let i = item_of stmt in
      let here = node_simple (lowered_routine l) n (lowering_scope l) i.mark i.deed c k (item_deed stmt ∙ is) in
      subst (DoesIn l f) (sym (here ∙ same k ∙ ap node at_k)) does

  -- a statement with two blocks, if the flow tests between the points at which they begin
  pub does_branch : (n to other : ℕ) (r : Rhs N) (a b : List (Stmt N)) →
      deed_of stmt.core ≡ branch (rhs_of r) (block_of a) (block_of b) →
      (IsCounted l n (stmt ∷ []) →
      BeginAt a (suc n) after to × BeginAt b (suc n + statements (block_of a)) after other) →
      (f : Flow A) → DoesIn l f (tests (side_in l r) to other) → DoesFirst l f stmt n after
  does_branch n to other r a b is begin f does k at_k few =
      let i = item_of stmt in
      let s = lowering_scope l in
      let (at_to, at_other) = begin few in
      let node = node_branch (lowered_routine l) n s i.mark i.deed (rhs_of r) (block_of a) (block_of b) k in
      subst (DoesIn l f)
      (sym (node (item_deed stmt ∙ is) ∙ λ t. tests (side_in l r) (sym (at_to s k at_k) t) (sym (at_other s k at_k) t)))
      does

  -- a statement with one block, after which it runs again
  pub does_repeat : (n to : ℕ) (r : Rhs N) (a : List (Stmt N)) → deed_of stmt.core ≡ repeat (rhs_of r) (block_of a) →
      (IsCounted l n (stmt ∷ []) → BeginAt a (suc n) n to) → (f : Flow A) →
      DoesIn l f (tests (side_in l r) to after) → DoesFirst l f stmt n after
  does_repeat n to r a is begin f does k at_k few =
      let i = item_of stmt in
      let s = lowering_scope l in
      let body = numbered (suc n) (resolve_block s (block_of a)) in
      let again = loop (marked n (resolve_mark i.mark)) (side_in l r) body k in
      let here = node_repeat (lowered_routine l) n s i.mark i.deed (rhs_of r) (block_of a) k (item_deed stmt ∙ is) in
      subst (DoesIn l f) (sym (here ∙ λ t. tests (side_in l r) (sym (begin few s again refl) t) (at_k t))) does

  pub lowered_simple : (c : tree.Simple tree.Name tree.Name tree.Name) (old new : List (Flow A)) →
      deed_of stmt.core ≡ simple c → LoweredFirst l old new stmt after → LoweredIn l old new (stmt ∷ []) after
  lowered_simple c old new is (f, pushed, does) =
      let i = item_of stmt in
      let s = lowering_scope l in
      let parts = ap held is in (
        omega (arith, ap length pushed, length-append old (f ∷ []), parts, alone_counts stmt),
        λ k at_k few.
            subst (λ ns. Lowered old new ns (lowered_widths l))
            (sym (nodes_simple (lowered_routine l) (length old) s i.mark i.deed c k (item_deed stmt ∙ is)))
            (lowered_one old new f _ _ pushed (does k at_k few)),
      )

  -- after the flow of the statement come those of the blocks inside of it
  pub lowered_branch : (r : tree.RightSide tree.Name) (a b : List (Stmt N)) (old first mid new : List (Flow A)) →
      deed_of stmt.core ≡ branch r (block_of a) (block_of b) → LoweredFirst l old first stmt after →
      LoweredIn l first mid a after → LoweredIn l mid new b after → LoweredIn l old new (stmt ∷ []) after
  lowered_branch r a b old first mid new is (f, pushed, does) left right =
      let i = item_of stmt in
      let s = lowering_scope l in
      let parts = ap held is in
      let whole = alone_counts stmt in
      let next : length first ≡ suc (length old) = omega (arith, ap length pushed, length-append old (f ∷ [])) in (
        omega (arith, next, left.0, right.0, whole, parts),
        λ k at_k few.
            let here = left.1 k at_k (few.0, omega (arith, few.1, next, whole, parts)) in
            let there = right.1 k at_k (few.0, omega (arith, few.1, left.0, next, whole, parts)) in
            subst (λ ns. Lowered old new ns (lowered_widths l))
            (sym (nodes_branch (lowered_routine l) (length old) (length first) (length mid) s i.mark i.deed r
            (block_of a) (block_of b) k (item_deed stmt ∙ is) next (omega (arith, left.0, next))))
            (lowered_then old first new _ _ _ (lowered_one old first f _ _ pushed (does k at_k few))
            (lowered_then first mid new _ _ _ here there)),
      )

  pub lowered_repeat : (r : tree.RightSide tree.Name) (a : List (Stmt N)) (old first new : List (Flow A)) →
      deed_of stmt.core ≡ repeat r (block_of a) → LoweredFirst l old first stmt after →
      LoweredIn l first new a (length old) → LoweredIn l old new (stmt ∷ []) after
  lowered_repeat r a old first new is (f, pushed, does) inside =
      let i = item_of stmt in
      let s = lowering_scope l in
      let parts = ap held is in
      let whole = alone_counts stmt in
      let next : length first ≡ suc (length old) = omega (arith, ap length pushed, length-append old (f ∷ [])) in (
        omega (arith, next, inside.0, whole, parts),
        λ k at_k few.
            let body = numbered (suc (length old)) (resolve_block s (block_of a)) in
            let again = loop (marked (length old) (resolve_mark i.mark)) (resolve_side s r) body k in
            let here = inside.1 again refl (few.0, omega (arith, few.1, next, whole, parts)) in
            subst (λ ns. Lowered old new ns (lowered_widths l))
            (sym (nodes_repeat (lowered_routine l) (length old) (length first) s i.mark i.deed r (block_of a) k
            (item_deed stmt ∙ is) next))
            (lowered_then old first new _ _ _ (lowered_one old first f _ _ pushed (does k at_k few)) here),
      )
