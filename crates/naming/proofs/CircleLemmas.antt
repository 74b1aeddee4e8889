-- Circles that are known: the numbers that are taken over for them.
use Rattle.std.proofs.Common.{◌≡◌, ◌⊎◌, ◌<◌, ◌≤◌, ◌+◌, ◌++◌, ℕ, Bool, true, false, Option, None, Some, List, [], ◌∷◌, length, slice_get}
use Rattle.std.proofs.Common.{inl, inr}
use Rattle.std.proofs.Common.{refl, sym, ap, ◌∙◌, subst, arith}
use Rattle.std.proofs.lemmas.Option.{same_Some, slice_get_within, none-some}
use Rattle.naming.specs.Moves.{HasNumber, AreAllKept, HaveNumbers, IsKept, IsKeptAt, KeepsNumbers}
use Rattle.naming.proofs.MoveLemmas.{moved_as}
use Rattle.naming.proofs.PlaceLemmas.{get_left}
use Rattle.stack_sets.proofs.NodeLemmas.{last_is}
use Rattle.stack_sets.specs.declared.node.Node.{Node}

-- what holds below a number and at it holds below the next
pub below_next : (P : ℕ → Type 0) (k : ℕ) → ((i : ℕ) → i < k → P i) → P k → (i : ℕ) → i < k + 1 → P i
below_next P k all here i small = elim (either i small) [ inl less ↦ all i less | inr same ↦ subst P (sym same) here ]
  where
    either : (i : ℕ) → i < k + 1 → (i < k) ⊎ (i ≡ k)
    either i small = grind (arith)

-- what has a number below k keeps it
abbrev pub KeepsBelow : ℕ → List (Option ℕ) → List (Option ℕ) → Type 0
KeepsBelow k old new = (i : ℕ) → i < k → (n : ℕ) → HasNumber old i n → HasNumber new i n

pub keeps_more : (names all all' : List (Option ℕ)) (k : ℕ) (x : Option ℕ) → length all ≡ k → all' ≡ all ++ x ∷ []
    → ((n : ℕ) → HasNumber names k n → x ≡ Some n) → KeepsBelow k names all → KeepsBelow (k + 1) names all'
keeps_more names all all' k x count more last keeps =
    below_next (λ i. (n : ℕ) → HasNumber names i n → HasNumber all' i n) k
    (λ i small n has. subst (λ l. HasNumber l i n) (sym more) (get_left all (x ∷ []) i (Some n) (keeps i small n has)))
    (λ n has.
    subst (λ l. HasNumber l k n) (sym more)
    (subst (λ j. HasNumber (all ++ x ∷ []) j n) count (last_is all x ∙ ap Some (last n has))))

-- all keep theirs
pub keeps_all : (names all : List (Option ℕ)) (k : ℕ) → length names ≤ k → KeepsBelow k names all → KeepsNumbers names all
keeps_all names all k large keeps i n has =
    let small : i < length names = slice_get_within names i (Some n) has in
    keeps i (omega (arith, small, large)) n has

module _ {Alloc : Type 0} (base : ℕ) (nodes there : List (Node Alloc)) where
  -- a node that has its number, and is kept
  pub kept_here : (names : List (Option ℕ)) (i n : ℕ) (node : Node Alloc) → slice_get nodes i ≡ Some node
      → slice_get names i ≡ Some (Some n) → IsKept base (HasNumber names) there node n → IsKeptAt base names nodes there i
  kept_here names i n node at has is m has' =
      let same : n ≡ m = same_Some n m (same_Some (Some n) (Some m) (sym has ∙ has')) in
      (node, at, subst (λ z. IsKept base (HasNumber names) there node z) same is)

  -- one that has none
  pub none_here : (names : List (Option ℕ)) (i : ℕ) → slice_get names i ≡ Some None → IsKeptAt base names nodes there i
  none_here names i none m has = absurd (none-some m (same_Some None (Some m) (sym none ∙ has)))

  -- all are kept
  pub all_kept : (names : List (Option ℕ)) (k : ℕ) → length nodes ≤ k → length names ≡ length nodes
      → ((i : ℕ) → i < k → IsKeptAt base names nodes there i) → AreAllKept base names nodes there
  all_kept names k large count are i n has =
      let small : i < length names = slice_get_within names i (Some n) has in
      are i (omega (arith, small, count, large)) n has

  -- numbers that are taken over
  pub taken_over : (names all : List (Option ℕ)) → length all ≡ length names → KeepsNumbers names all
      → HaveNumbers base nodes names there → AreAllKept base all nodes there → HaveNumbers base nodes all there
  taken_over names all count keeps (many, are) kept = (
    count ∙ many,
    record {
      kept = kept;
      moved = λ q f r large has.
          let (i, m, has', mv) = are.moved q f r large has in
          (i, m, has', moved_as base (HasNumber names) (HasNumber all) keeps m r mv);
    },
  )
