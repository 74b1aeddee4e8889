-- How many statements a list has, by its first.
use Rattle.std.proofs.Common.{◌≡◌, ℕ, suc, ◌+◌, ◌<◌, ◌≤◌, List, [], ◌∷◌, drop, get_or, length, sym, ◌∙◌, ap, arith}
use Rattle.std.proofs.lemmas.List.{drop_more, drop_all}
use Rattle.language.specs.Sequential.{statements}
use Rattle.trees.specs.declared.tree.Stmt.{Stmt}
use Rattle.trees.specs.Trees.{deed_of, block_of}
use Rattle.trees.proofs.Held.{held, first_counts}

-- a statement alone counts one, and what it holds
pub alone_counts : {A : Type 0} (s : Stmt A) → statements (block_of (s ∷ [])) ≡ suc (held (deed_of s.core))
alone_counts s = let e = first_counts s [] in omega (arith, e)

-- a list counts what its first statement counts, and the others
pub split_counts : {A : Type 0} (s : Stmt A) (l : List (Stmt A))
    → statements (block_of (s ∷ l)) ≡ statements (block_of (s ∷ [])) + statements (block_of l)
split_counts s l = let e = first_counts s l in let f = alone_counts s in omega (arith, e, f)

-- the same from some place of a list on
pub next_counts : {A : Type 0} (l : List (Stmt A)) (i : ℕ) (s : Stmt A) → i < length l → s ≡ get_or l i s →
    statements (block_of (drop i l)) ≡ statements (block_of (s ∷ [])) + statements (block_of (drop (i + 1) l))
next_counts {A} l i s lt is =
    ap (λ x. statements (block_of x)) (drop_more l i s lt ∙ ap (λ (y : Stmt A). y ∷ drop (i + 1) l) (sym is))
    ∙ split_counts s (drop (i + 1) l)

-- after the last there is none
pub end_counts : {A : Type 0} (l : List (Stmt A)) (i : ℕ) → length l ≤ i → statements (block_of (drop i l)) ≡ 0
end_counts l i le = ap (λ x. statements (block_of x)) (drop_all i l le)
