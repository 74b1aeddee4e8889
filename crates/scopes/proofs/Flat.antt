-- The statements of a block, one statement after the other.
use Rattle.std.proofs.Common.{◌≡◌, ℕ, ◌+◌, ◌*◌, ◌<◌, ◌≤◌, arith, List, [], ◌∷◌, ◌++◌, length, map, drop}
use Rattle.std.proofs.Common.{get_or, refl, sym, ◌∙◌, ap, append_assoc, append-nil}
use Rattle.std.proofs.lemmas.List.{drop_more, drop_all}
use Rattle.language.specs.Sequential.{statements}
use Rattle.language.specs.Tree.{Name, Mark, Block}
use Rattle.trees.specs.Trees.{Deed, simple, branch, repeat, Item, item_of, marked_before, block_of, deed_of, proc_of, procs_of}
use Rattle.trees.specs.declared.tree.Proc.{Proc}
use Rattle.trees.specs.declared.tree.Stmt.{Stmt}
use Rattle.resolved.specs.Statements.{Statement, statement_of, statements_of, statements_of_all, inside}
use Rattle.trees.specs.Parts.{head_of}
use Rattle.trees.proofs.Folds.{item_is}
use Rattle.trees.proofs.Held.{held, smaller}

put : (m : Mark Name) (d : Deed) (k : Block Name Name Name)
    → statements_of (marked_before m d k) ≡ record { mark = m; head = head_of d } ∷ (inside d ++ statements_of k)
put m (simple s) k = refl
put m (branch r a b) k =
    ap (λ (l : List Statement). record { mark = m; head = head_of (branch r a b) } ∷ l)
    (sym (append_assoc (statements_of a) (statements_of b) (statements_of k)))
put m (repeat r a) k =
    ap (λ (l : List Statement). record { mark = m; head = head_of (repeat r a) } ∷ l)
    (sym (append_assoc (statements_of a) [] (statements_of k)))

pub first : {A : Type 0} (s : Stmt A) (k : List (Stmt A))
    → statements_of (block_of (s ∷ k)) ≡ (statement_of s ∷ inside (deed_of s.core)) ++ statements_of (block_of k)
first s k =
    put (item_of s).mark (item_of s).deed (block_of k)
    ∙ ap (λ (i : Item). statement_of s ∷ (inside i.deed ++ statements_of (block_of k))) (item_is s)

-- the measure of a statement of a list, as the two functions that flatten call one another, is less than the list's
pub less_inside : {A : Type 0} (l : List (Stmt A)) (i : ℕ) (s : Stmt A) → i < length l → s ≡ get_or l i s
    → 2 * held (deed_of s.core) + 2 < 2 * statements (block_of l) + 1
less_inside l i s lt is = let part = smaller l i s lt is in omega (arith, part)

-- a loop that appends statements to others
pub one_more : {A : Type 0} (l : List (Stmt A)) (i : ℕ) (s : Stmt A) (old new w : List Statement)
    → i < length l → s ≡ get_or l i s → old ++ statements_of (block_of (drop i l)) ≡ w
    → new ≡ old ++ (statement_of s ∷ inside (deed_of s.core))
    → new ++ statements_of (block_of (drop (i + 1) l)) ≡ w
one_more {A} l i s old new w lt is h e =
    ap (λ (x : List Statement). x ++ statements_of (block_of (drop (i + 1) l))) e
    ∙ append_assoc old (statement_of s ∷ inside (deed_of s.core)) (statements_of (block_of (drop (i + 1) l)))
    ∙ ap (λ (x : List Statement). old ++ x) (sym (first s (drop (i + 1) l)))
    ∙ ap (λ (x : List (Stmt A)). old ++ statements_of (block_of x))
    (sym (drop_more l i s lt ∙ ap (λ (y : Stmt A). y ∷ drop (i + 1) l) (sym is)))
    ∙ h

pub no_more : {A : Type 0} (l : List (Stmt A)) (i : ℕ) (old w : List Statement) → length l ≤ i
    → old ++ statements_of (block_of (drop i l)) ≡ w → old ≡ w
no_more {A} l i old w le h =
    sym (append-nil old) ∙ ap (λ (x : List (Stmt A)). old ++ statements_of (block_of x)) (sym (drop_all i l le)) ∙ h

-- what is appended to others in the end: the statement, and then its two blocks
pub after_two : (into pushed one two : List Statement) (s : Statement) (i a b : List Statement) → pushed ≡ into ++ (s ∷ [])
    → one ≡ pushed ++ a → two ≡ one ++ b → i ≡ a ++ b → two ≡ into ++ (s ∷ i)
after_two into pushed one two s i a b e f h k =
    h ∙ ap (λ (x : List Statement). x ++ b) f ∙ ap (λ (x : List Statement). (x ++ a) ++ b) e ∙ again
    ∙ ap (λ (x : List Statement). into ++ (s ∷ x)) (sym k)
  where
    again : ((into ++ (s ∷ [])) ++ a) ++ b ≡ into ++ (s ∷ (a ++ b))
    again = ap (λ (x : List Statement). x ++ b) (append_assoc into (s ∷ []) a) ∙ append_assoc into (s ∷ a) b

-- a loop that appends the statements of procedures to others
pub one_procedure : {A : Type 0} (l : List (Proc A)) (i : ℕ) (p : Proc A) (old new w : List Statement)
    → i < length l → p ≡ get_or l i p → old ++ statements_of_all (procs_of (drop i l)) ≡ w
    → new ≡ old ++ statements_of (proc_of p).body
    → new ++ statements_of_all (procs_of (drop (i + 1) l)) ≡ w
one_procedure {A} l i p old new w lt is h e =
    ap (λ (x : List Statement). x ++ statements_of_all (procs_of (drop (i + 1) l))) e
    ∙ append_assoc old (statements_of (proc_of p).body) (statements_of_all (procs_of (drop (i + 1) l)))
    ∙ ap (λ (x : List (Proc A)). old ++ statements_of_all (procs_of x))
    (sym (drop_more l i p lt ∙ ap (λ (y : Proc A). y ∷ drop (i + 1) l) (sym is)))
    ∙ h
