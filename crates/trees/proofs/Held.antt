-- How many statements a statement holds.
use Rattle.std.proofs.Common.{◌≡◌, ℕ, zero, suc, ◌+◌, ◌<◌, ◌≤◌, List, [], ◌∷◌, length, get_or, ◌∙◌, ap, arith}
use Rattle.language.specs.Tree.{Name, Mark, Block}
use Rattle.language.specs.Sequential.{statements}
use Rattle.trees.specs.declared.tree.Stmt.{Stmt}
use Rattle.trees.specs.Trees.{Deed, simple, branch, repeat, item_of, deed_of, block_of, marked_before}
use Rattle.trees.specs.Parts.{first_inside, second_inside}
use Rattle.trees.proofs.Folds.{item_deed}

-- how many statements are inside of what a statement does
abbrev pub held : Deed → ℕ
held d = statements (first_inside d) + statements (second_inside d)

put : (m : Mark Name) (d : Deed) (k : Block Name Name Name) → statements (marked_before m d k) ≡ suc (held d + statements k)
put m (simple s) k = let e : suc (statements k) ≡ suc (0 + statements k) = omega arith in e
put m (branch r a b) k =
    let e : suc (statements a + (statements b + statements k)) ≡ suc ((statements a + statements b) + statements k) = omega arith in e
put m (repeat r a) k =
    let e : suc (statements a + statements k) ≡ suc ((statements a + 0) + statements k) = omega arith in e

-- the first statement counts one, and what it holds
pub first_counts : {A : Type 0} (s : Stmt A) (l : List (Stmt A))
    → statements (block_of (s ∷ l)) ≡ suc (held (deed_of s.core) + statements (block_of l))
first_counts s l = put (item_of s).mark (item_of s).deed (block_of l) ∙ ap (λ d. suc (held d + statements (block_of l))) (item_deed s)

-- a statement of a list holds fewer than the list
pub smaller : {A : Type 0} (l : List (Stmt A)) (i : ℕ) (s : Stmt A) → i < length l → s ≡ get_or l i s
    → held (deed_of s.core) + 1 ≤ statements (block_of l)
smaller [] i s lt is = absurd (omega arith)
smaller {A} (x ∷ l) zero s lt is =
    let e = first_counts x l in
    let f : held (deed_of s.core) ≡ held (deed_of x.core) = ap (λ (y : Stmt A). held (deed_of y.core)) is in
    omega (arith, e, f)
smaller (x ∷ l) (suc i) s lt is =
    let e = first_counts x l in
    let f : held (deed_of s.core) + 1 ≤ statements (block_of l) = smaller l i s (omega arith) is in
    omega (arith, e, f)
