-- Statements as numbered code, by the first and those after it.
use Rattle.std.proofs.Common.{◌≡◌, ℕ, suc, ◌+◌, refl, ap, arith}
use Rattle.language.specs.Tree as tree
use Rattle.language.specs.Tree.{Mark, Block, done, one, choose, loop}
use Rattle.language.specs.Resolve.{Scope, resolve_block}
use Rattle.language.specs.Rest.{Code}
use Rattle.language.specs.Sequential.{statements, numbered}
use Rattle.trees.specs.Trees.{Deed, simple, branch, repeat, marked_before}

abbrev pub Names : Type 0
Names = Block tree.Name tree.Name tree.Name

-- names don't matter to how many statements there are
pub resolved_statements : (s : Scope) (b : Names) → statements (resolve_block s b) ≡ statements b
resolved_statements s done = refl
resolved_statements s (one m c t) = ap suc (resolved_statements s t)
resolved_statements s (choose m r a b t) =
    let x = resolved_statements s a in let y = resolved_statements s b in let z = resolved_statements s t in omega (arith, x, y, z)
resolved_statements s (loop m r a t) = let x = resolved_statements s a in let z = resolved_statements s t in omega (arith, x, z)

-- a statement and those after it, the first with this number
abbrev pub led : ℕ → Scope → Mark tree.Name → Deed → Names → Code
led n s m d t = numbered n (resolve_block s (marked_before m d t))

-- the statements after it
abbrev pub tail : ℕ → Scope → Mark tree.Name → Deed → Names → Code
tail n s m d t = numbered (n + statements (marked_before m d done)) (resolve_block s t)

-- the first block inside of the statement that has number n, and a second one after it
abbrev pub inner : ℕ → Scope → Names → Code
inner n s a = numbered (suc n) (resolve_block s a)

abbrev pub inner_second : ℕ → Scope → Names → Names → Code
inner_second n s a b = numbered (suc n + statements (resolve_block s a)) (resolve_block s b)

-- what is after a statement with two blocks
abbrev pub behind_two : ℕ → Scope → Names → Names → Names → Code
behind_two n s a b t =
    numbered (suc n + (statements (resolve_block s a) + statements (resolve_block s b))) (resolve_block s t)

-- their number, as numbering counts it
pub behind_simple : (n : ℕ) (s : Scope) (m : Mark tree.Name) (t : Names) (c : tree.Simple tree.Name tree.Name tree.Name) →
    numbered (suc n) (resolve_block s t) ≡ tail n s m (simple c) t
behind_simple n s m t c = ap (λ k. numbered k (resolve_block s t)) (let e : suc n ≡ n + 1 = omega arith in e)

pub behind_branch : (n : ℕ) (s : Scope) (m : Mark tree.Name) (t : Names) (r : tree.RightSide tree.Name) (a b : Names) →
    behind_two n s a b t ≡ tail n s m (branch r a b) t
behind_branch n s m t r a b =
    ap (λ k. numbered k (resolve_block s t))
    (let x = resolved_statements s a in let y = resolved_statements s b in
    let e : suc n + (statements (resolve_block s a) + statements (resolve_block s b)) ≡ n + suc (statements a + (statements b + 0)) =
    omega (arith, x, y) in e)

pub behind_repeat : (n : ℕ) (s : Scope) (m : Mark tree.Name) (t : Names) (r : tree.RightSide tree.Name) (a : Names) →
    inner_second n s a t ≡ tail n s m (repeat r a) t
behind_repeat n s m t r a =
    ap (λ k. numbered k (resolve_block s t))
    (let x = resolved_statements s a in let e : suc n + statements (resolve_block s a) ≡ n + suc (statements a + 0) = omega (arith, x) in e)
