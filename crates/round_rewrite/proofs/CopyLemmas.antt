-- The globals of the rewritten program, one round after the other.
use Rattle.std.proofs.Common.{◌≡◌, ℕ, ◌+◌, List, [], ◌∷◌, ◌++◌, map, sym, ◌∙◌, ap, append_assoc, append-nil}
use Rattle.language.specs.Tree.{Name}
use Rattle.round_rewrite.specs.Table.{Naming, numbers, copied}
use Rattle.round_rewrite.proofs.PushLemmas.{numbers_next}

module _ (w : Naming Name Name Name Name) (last : ℕ) (f : ℕ → Name → Name) (xs : List Name) where
  copied_behind : (ks : List ℕ) (k : ℕ) → copied w last f xs (ks ++ k ∷ []) ≡ copied w last f xs ks ++ map (f k) xs
  copied_behind [] k = append-nil (map (f k) xs)
  copied_behind (j ∷ ks) k =
      ap (λ ns. map (f j) xs ++ ns) (copied_behind ks k) ∙ sym (append_assoc (map (f j) xs) (copied w last f xs ks) (map (f k) xs))

  -- the names for one more round are appended to those for the rounds before
  pub copied_next : (start k round : ℕ) (old now new : List Name) → round ≡ start + k
      → now ≡ old ++ copied w last f xs (numbers start k)
      → new ≡ now ++ map (f round) xs → new ≡ old ++ copied w last f xs (numbers start (k + 1))
  copied_next start k round old now new r e h =
      h ∙ (ap (λ ns. ns ++ map (f round) xs) e
      ∙ (append_assoc old (copied w last f xs (numbers start k)) (map (f round) xs)
      ∙ ap (λ ns. old ++ ns) (ap (λ n. copied w last f xs (numbers start k) ++ map (f n) xs) r
      ∙ (sym (copied_behind (numbers start k) (start + k)) ∙ sym (ap (copied w last f xs) (numbers_next start k))))))
