-- How many temporaries statements need, one after the other.
use Rattle.std.proofs.Common.{◌≡◌, ℕ, ◌+◌, ◌<◌, ◌≤◌, Bool, max, List, ◌∷◌, length, get_or, drop, sym, ◌∙◌, ap, arith}
use Rattle.std.proofs.lemmas.List.{drop_more, drop_all}
use Rattle.language.specs.Tree as tree
use Rattle.language.specs.Tree.{Mark}
use Rattle.language.specs.Parts.{plain}
use Rattle.trees.specs.declared.tree.Stmt.{Stmt}
use Rattle.trees.specs.Trees.{Deed, simple, branch, repeat, item_of, deed_of, block_of, marked_before}
use Rattle.round_rewrite.specs.Table.{draws_of, temporaries}
use Rattle.round_rewrite.specs.Writing.{TextBlock, deed_needs}
use Rattle.trees.proofs.Folds.{item_deed}

max_assoc : (a b c : ℕ) → max a (max b c) ≡ max (max a b) c
max_assoc a b c = omega arith

module _ (shared : tree.Name → Bool) where
  put : (m : Mark tree.Name) (d : Deed) (k : TextBlock)
      → temporaries shared (marked_before m d k) ≡ max (deed_needs shared d) (temporaries shared k)
  put m (simple s) k =
      let e : max (draws_of shared (plain s)) (temporaries shared k) ≡ max (max (draws_of shared (plain s)) (max 0 0))
      (temporaries shared k) = omega arith in e
  put m (branch r a b) k =
      let e : max (temporaries shared a) (max (temporaries shared b) (temporaries shared k)) ≡ max
      (max 0 (max (temporaries shared a) (temporaries shared b))) (temporaries shared k) = omega arith in e
  put m (repeat r a) k =
      let e : max (temporaries shared a) (temporaries shared k) ≡ max (max 0 (max (temporaries shared a) 0)) (temporaries shared k) =
      omega arith in e

  first : {A : Type 0} (s : Stmt A) (l : List (Stmt A))
      → temporaries shared (block_of (s ∷ l)) ≡ max (deed_needs shared (deed_of s.core)) (temporaries shared (block_of l))
  first s l = put (item_of s).mark (item_of s).deed (block_of l)
      ∙ ap (λ d. max (deed_needs shared d) (temporaries shared (block_of l))) (item_deed s)

  module _ {A : Type 0} (l : List (Stmt A)) (i : ℕ) where
    pub one_more : (s : Stmt A) (old own new whole : ℕ) → i < length l → s ≡ get_or l i s
        → own ≡ deed_needs shared (deed_of s.core) → new ≡ max old own
        → max old (temporaries shared (block_of (drop i l))) ≡ whole
        → max new (temporaries shared (block_of (drop (i + 1) l))) ≡ whole
    one_more s old own new whole lt is e f h =
        let k = temporaries shared (block_of (drop (i + 1) l)) in
        let here : temporaries shared (block_of (drop i l)) ≡ max (deed_needs shared (deed_of s.core)) k =
        ap (λ x. temporaries shared (block_of x)) (drop_more l i s lt ∙ ap (λ (y : Stmt A). y ∷ drop (i + 1) l) (sym is))
        ∙ first s (drop (i + 1) l) in
        ap (λ n. max n k) (f ∙ ap (max old) e)
        ∙ (sym (max_assoc old (deed_needs shared (deed_of s.core)) k)
        ∙ (ap (max old) (sym here) ∙ h))

    pub no_more : (old whole : ℕ) → length l ≤ i
        → max old (temporaries shared (block_of (drop i l))) ≡ whole → old ≡ whole
    no_more old whole le h =
        let none : max old (temporaries shared (block_of (drop i l))) ≡ max old 0 =
        ap (λ x. max old (temporaries shared (block_of x))) (drop_all i l le) in
        let back : old ≡ max old 0 = omega arith in
        back ∙ (sym none ∙ h)
