-- What the first procedure is made of, one part after the other.
use Rattle.std.proofs.Common.{◌≡◌, ℕ, ◌+◌, ◌<◌, ◌≤◌, List, [], ◌∷◌, length, get_or, drop, map, refl, sym, ◌∙◌, ap, arith}
use Rattle.std.proofs.lemmas.List.{drop_more, drop_all}
use Rattle.language.specs.Tree as tree
use Rattle.language.specs.Tree.{any, var, value, assign, one}
use Rattle.trees.specs.declared.tree.Stmt.{Stmt}
use Rattle.trees.specs.Trees.{items_of, all_before}
use Rattle.round_rewrite.specs.Table.{Naming, numbers, each, no_mark, guess, guesses, check, checks}
use Rattle.round_rewrite.specs.Writing.{TextBlock, Lays}
use Rattle.round_rewrite.proofs.InTurn.{one_behind}

module _ {M X Y : Type 0} (seen : X → Y) (f : List Y → TextBlock → TextBlock) where
  module _ (g : Y → TextBlock → TextBlock) (step : (y : Y) (ys : List Y) (k : TextBlock) → f (y ∷ ys) k ≡ g y (f ys k)) where
    -- one more of a list is appended to what is there
    pub each_more : (xs : List X) (i : ℕ) (x : X) → i < length xs → x ≡ get_or xs i x → (old new : List (Stmt M))
        → Lays old new (g (seen x)) → (whole : TextBlock → TextBlock)
        → ((rest : TextBlock) → all_before (items_of old) (f (map seen (drop i xs)) rest) ≡ whole rest) → (rest : TextBlock)
        → all_before (items_of new) (f (map seen (drop (i + 1) xs)) rest) ≡ whole rest
    each_more xs i x lt is old new laid whole so rest =
        let others = map seen (drop (i + 1) xs) in
        laid (f others rest)
        ∙ (ap (all_before (items_of old)) (sym (step (seen x) others rest))
        ∙ (ap (λ l. all_before (items_of old) (f (map seen l) rest))
        (sym (drop_more xs i x lt ∙ ap (λ y. y ∷ drop (i + 1) xs) (sym is)))
        ∙ so rest))

  -- all of a list are appended to what was there
  pub each_end : ((k : TextBlock) → f [] k ≡ k) → (xs : List X) (i : ℕ) → length xs ≤ i → (new : List (Stmt M))
      (whole : TextBlock → TextBlock)
      → ((rest : TextBlock) → all_before (items_of new) (f (map seen (drop i xs)) rest) ≡ whole rest) → (rest : TextBlock)
      → all_before (items_of new) rest ≡ whole rest
  each_end none xs i le new whole so rest =
      ap (all_before (items_of new)) (sym (none rest))
      ∙ (sym (ap (λ l. all_before (items_of new) (f (map seen l) rest)) (drop_all i xs le)) ∙ so rest)

module _ (w : Naming tree.Name tree.Name tree.Name tree.Name) (last : ℕ) where
  pub guess_some : (xs : List tree.Name) (x : tree.Name) (more : List tree.Name) (k : ℕ) (t : TextBlock) → xs ≡ x ∷ more
      → guess w last xs k t
      ≡ one no_mark (assign (map (w.copy k) xs) (each any xs))
      (one no_mark (assign (map (w.save k) xs) (map (λ y. value (var (w.copy k y))) xs)) t)
  guess_some [] x more k t e = cc
  guess_some (y ∷ ys) x more k t e = refl

  pub guesses_next : (xs : List tree.Name) (k : ℕ) (t : TextBlock)
      → guesses w last xs (numbers 1 (k + 1)) t ≡ guesses w last xs (numbers 1 k) (guess w last xs (k + 1) t)
  guesses_next xs k t =
      one_behind (guesses w last xs) (guess w last xs) (λ t. refl) (λ j ks t. refl) 1 k (k + 1) (omega arith) t

  pub checks_next : (xs : List tree.Name) (k : ℕ) (t : TextBlock)
      → checks w last xs (numbers 0 (k + 1)) t ≡ checks w last xs (numbers 0 k) (check w last xs k t)
  checks_next xs k t = one_behind (checks w last xs) (check w last xs) (λ t. refl) (λ j ks t. refl) 0 k k (omega arith) t
