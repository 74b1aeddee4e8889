-- Nodes without heads that others cover have the stacks of those that they were.
use Rattle.std.proofs.Common.{◌≡◌, ◌↔◌, ◌<◌, ◌≤◌, ◌+◌, ◌++◌, ◌∙◌, ℕ, zero, suc, true, List, [], ◌∷◌, length, slice_get, inl, inr}
use Rattle.std.proofs.Common.{refl, sym, ap, subst, take, get_or, arith}
use Rattle.std.specs.Prelude.{IsPermutation}
use Rattle.std.proofs.lemmas.List.{take_all}
use Rattle.std.proofs.lemmas.List.Sorted.{IsPermutation-sym}
use Rattle.language.specs.Lists.{Member}
use Rattle.language.proofs.Members.{member_append, member_left, member_right}
use Rattle.turns.specs.Stacks.{InNode}
use Rattle.turns.specs.declared.numbered_frame.NumberedFrame.{NumberedFrame}
use Rattle.stack_sets.specs.Nodes.{AtNode, by_number, head_over}
use Rattle.stack_sets.specs.Turns.{AreWhole}
use Rattle.stack_sets.specs.Within.{AreWithin, IsWithin}
use Rattle.stack_sets.specs.declared.inclusions.Pair.{Pair}
use Rattle.stack_sets.specs.declared.node.Head.{Head}
use Rattle.stack_sets.specs.declared.node.Node.{Node}
use Rattle.naming.specs.Moves.{ReachBelow}
use Rattle.naming.specs.Pruned.{Covers, IsCovered, MayKeep, AreEnough, IsPruned, ArePruned}
use Rattle.naming.proofs.ListLemmas.{take_one}
use Rattle.naming.proofs.PlaceLemmas.{reordered}

module _ {Alloc : Type 0} (all : List (Node Alloc)) where
  -- nothing is known
  pub none_known : (pairs : List Pair) → pairs ≡ [] → AreWithin all pairs
  none_known pairs none p m = absurd (subst (Member p) none m)

  -- ---- heads that are enough

  covers_self : (x : Head) → Covers all x x
  covers_self x = (refl, λ stack inside. inside)

  covers_on : (x y z : Head) → Covers all x y → Covers all y z → Covers all x z
  covers_on x y z (same, within) (same', within') = (same' ∙ same, λ stack inside. within' stack (within stack inside))

  covered_on : (x : Head) (ys zs : List Head) → AreEnough all ys zs → IsCovered all x ys → IsCovered all x zs
  covered_on x ys zs enough (y, m, covers) =
      let (z, m', covers') = enough.1 y m in
      (z, m', covers_on x y z covers covers')

  -- what is enough of what is enough is enough
  enough_on : (xs ys zs : List Head) → AreEnough all xs ys → AreEnough all ys zs → AreEnough all xs zs
  enough_on xs ys zs enough enough' =
      (λ x m. enough.0 x (enough'.0 x m), λ x m. covered_on x ys zs enough' (enough.1 x m))

  enough_self : (xs : List Head) → AreEnough all xs xs
  enough_self xs = (λ x m. m, λ x m. (x, m, covers_self x))

  -- the same heads in another order are
  enough_shuffled : (xs ys : List Head) → IsPermutation xs ys → AreEnough all xs ys
  enough_shuffled xs ys order = (
    λ x m. reordered ys xs x (IsPermutation-sym xs ys order) m,
    λ x m. (x, reordered xs ys x order m, covers_self x),
  )

  enough_last : (xs kept : List Head) (x : Head) → AreEnough all xs kept → AreEnough all (xs ++ x ∷ []) (kept ++ x ∷ [])
  enough_last xs kept x enough = (
    λ y m.
        elim (member_append y kept (x ∷ []) m) [
          | inl was ↦ member_left y xs (x ∷ []) (enough.0 y was)
          | inr now ↦ member_right y xs (x ∷ []) now
        ],
    λ y m.
        elim (member_append y xs (x ∷ []) m) [
          | inl was ↦ let (z, m', covers) = enough.1 y was in (z, member_left z kept (x ∷ []) m', covers)
          | inr now ↦ (y, member_right y kept (x ∷ []) now, covers_self y)
        ],
  )

  enough_but : (xs kept : List Head) (x : Head) → AreEnough all xs kept → IsCovered all x kept → AreEnough all (xs ++ x ∷ []) kept
  enough_but xs kept x enough covered = (
    λ y m. member_left y xs (x ∷ []) (enough.0 y m),
    λ y m.
        elim (member_append y xs (x ∷ []) m) [
          | inl was ↦ enough.1 y was
          | inr (inl same) ↦ subst (λ z. IsCovered all z kept) (sym same) covered
          | inr (inr none) ↦ absurd none
        ],
  )

  -- one more head
  pub tried_more : (heads kept kept' : List Head) (i : ℕ) (d : Head) → i < length heads → AreEnough all (take i heads) kept
      → MayKeep all (get_or heads i d) kept kept' → AreEnough all (take (i + 1) heads) kept'
  tried_more heads kept kept' i d small enough (inl is) =
      subst (λ l. AreEnough all l kept') (sym (take_one heads i d small))
      (subst (AreEnough all (take i heads ++ get_or heads i d ∷ [])) (sym is)
      (enough_last (take i heads) kept (get_or heads i d) enough))
  tried_more heads kept kept' i d small enough (inr (same, covered)) =
      subst (λ l. AreEnough all l kept') (sym (take_one heads i d small))
      (subst (AreEnough all (take i heads ++ get_or heads i d ∷ [])) (sym same)
      (enough_but (take i heads) kept (get_or heads i d) enough covered))

  -- none yet
  pub enough_none : (heads kept : List Head) → kept ≡ [] → AreEnough all (take 0 heads) kept
  enough_none [] kept none = (λ x m. absurd (subst (Member x) none m), λ x m. absurd m)
  enough_none (y ∷ heads) kept none = (λ x m. absurd (subst (Member x) none m), λ x m. absurd m)

  -- all are looked at
  pub enough_whole : (heads kept : List Head) (i : ℕ) → length heads ≤ i → AreEnough all (take i heads) kept → AreEnough all heads kept
  enough_whole heads kept i large enough = subst (λ l. AreEnough all l kept) (take_all i heads large) enough

  -- two passes, of which the second goes the other way
  pub enough_twice : (heads sorted some some' kept kept' : List Head) → IsPermutation heads sorted → AreEnough all sorted some
      → IsPermutation some some' → AreEnough all some' kept → IsPermutation kept kept' → AreEnough all heads kept'
  enough_twice heads sorted some some' kept kept' order enough order' enough' order'' =
      enough_on heads some kept' (enough_on heads sorted some (enough_shuffled heads sorted order) enough)
      (enough_on some some' kept' (enough_shuffled some some' order')
      (enough_on some' kept kept' enough' (enough_shuffled kept kept' order'')))

  -- ---- nodes one by one

  pruned_last : (xs ys : List (Node Alloc)) (x y : Node Alloc) → ArePruned all xs ys → IsPruned all x y
      → ArePruned all (xs ++ x ∷ []) (ys ++ y ∷ [])
  pruned_last [] [] x y are is = (is, tt)
  pruned_last [] (z ∷ ys) x y are is = absurd are
  pruned_last (w ∷ xs) [] x y are is = absurd are
  pruned_last (w ∷ xs) (z ∷ ys) x y (is', are) is = (is', pruned_last xs ys x y are is)

  pub pruned_none : (nodes ys : List (Node Alloc)) → ys ≡ [] → ArePruned all (take 0 nodes) ys
  pruned_none [] ys none = subst (ArePruned all []) (sym none) tt
  pruned_none (x ∷ nodes) ys none = subst (ArePruned all []) (sym none) tt

  -- one more node
  pub pruned_more : (nodes ys ys' : List (Node Alloc)) (i : ℕ) (d y : Node Alloc) → i < length nodes
      → ArePruned all (take i nodes) ys → IsPruned all (get_or nodes i d) y → ys' ≡ ys ++ y ∷ []
      → ArePruned all (take (i + 1) nodes) ys'
  pruned_more nodes ys ys' i d y small are is more =
      subst (λ l. ArePruned all l ys') (sym (take_one nodes i d small))
      (subst (ArePruned all (take i nodes ++ get_or nodes i d ∷ [])) (sym more)
      (pruned_last (take i nodes) ys (get_or nodes i d) y are is))

  -- nodes from before stay as they are
  pruned_behind : (before xs ys : List (Node Alloc)) → ArePruned all xs ys → ArePruned all (before ++ xs) (before ++ ys)
  pruned_behind [] xs ys are = are
  pruned_behind (x ∷ before) xs ys are = ((refl, enough_self x.heads.items), pruned_behind before xs ys are)

  -- all are looked at
  pub pruned_done : (nodes ys : List (Node Alloc)) (i : ℕ) → length nodes ≤ i → ArePruned all (take i nodes) ys → ArePruned all nodes ys
  pruned_done nodes ys i large are = subst (λ l. ArePruned all l ys) (take_all i nodes large) are

  pub pruned_length : (xs ys : List (Node Alloc)) → ArePruned all xs ys → length ys ≡ length xs
  pruned_length [] [] are = refl
  pruned_length [] (y ∷ ys) are = absurd are
  pruned_length (x ∷ xs) [] are = absurd are
  pruned_length (x ∷ xs) (y ∷ ys) are = ap suc (pruned_length xs ys are.1)

  -- ---- what the nodes have

  -- the places of two nodes of which one is the other pruned
  both_at : (P Q : Node Alloc → Type 0) → ((x y : Node Alloc) → IsPruned all x y → P x → Q y) → (xs ys : List (Node Alloc))
      → ArePruned all xs ys → (q : ℕ) → AtNode (slice_get xs q) P → AtNode (slice_get ys q) Q
  both_at P Q sub [] [] are q at = absurd at
  both_at P Q sub [] (y ∷ ys) are q at = absurd at
  both_at P Q sub (x ∷ xs) [] are q at = absurd are
  both_at P Q sub (x ∷ xs) (y ∷ ys) are zero at = sub x y are.0 at
  both_at P Q sub (x ∷ xs) (y ∷ ys) are (suc q) at = both_at P Q sub xs ys are.1 q at

  at_both : (P Q : Node Alloc → Type 0) → ((x y : Node Alloc) → IsPruned all x y → P y → Q x) → (xs ys : List (Node Alloc))
      → ArePruned all xs ys → (q : ℕ) → AtNode (slice_get ys q) P → AtNode (slice_get xs q) Q
  at_both P Q sub [] [] are q at = absurd at
  at_both P Q sub [] (y ∷ ys) are q at = absurd are
  at_both P Q sub (x ∷ xs) [] are q at = absurd at
  at_both P Q sub (x ∷ xs) (y ∷ ys) are zero at = sub x y are.0 at
  at_both P Q sub (x ∷ xs) (y ∷ ys) are (suc q) at = at_both P Q sub xs ys are.1 q at

  some_at : (P : Node Alloc → Type 0) (Q : ℕ → Node Alloc → Type 0) (R : ℕ → Type 0)
      → ((x y : Node Alloc) → IsPruned all x y → P x → (n : ℕ) × Q n y × R n) → (xs ys : List (Node Alloc))
      → ArePruned all xs ys → (q : ℕ) → AtNode (slice_get xs q) P → (n : ℕ) × AtNode (slice_get ys q) (Q n) × R n
  some_at P Q R sub [] [] are q at = absurd at
  some_at P Q R sub [] (y ∷ ys) are q at = absurd at
  some_at P Q R sub (x ∷ xs) [] are q at = absurd are
  some_at P Q R sub (x ∷ xs) (y ∷ ys) are zero at = sub x y are.0 at
  some_at P Q R sub (x ∷ xs) (y ∷ ys) are (suc q) at = some_at P Q R sub xs ys are.1 q at

  -- a node is bare as it was
  bare_kept : (xs ys : List (Node Alloc)) → ArePruned all xs ys → (q : ℕ) → (by_number xs).Bare q → (by_number ys).Bare q
  bare_kept xs ys are q bare =
      both_at (λ x. x.bare ≡ true) (λ y. y.bare ≡ true) (λ x y is bare'. is.0 ∙ bare') xs ys are q bare

  bare_was : (xs ys : List (Node Alloc)) → ArePruned all xs ys → (q : ℕ) → (by_number ys).Bare q → (by_number xs).Bare q
  bare_was xs ys are q bare =
      at_both (λ y. y.bare ≡ true) (λ x. x.bare ≡ true) (λ x y is bare'. sym is.0 ∙ bare') xs ys are q bare

  -- its heads are heads that it had
  head_was : (xs ys : List (Node Alloc)) → ArePruned all xs ys → (q : ℕ) (f : NumberedFrame) (m : ℕ) → (by_number ys).Has q f m
      → (by_number xs).Has q f m
  head_was xs ys are q f m has =
      at_both (λ y. Member (head_over f m) y.heads.items) (λ x. Member (head_over f m) x.heads.items)
      (λ x y is member. is.1.0 (head_over f m) member) xs ys are q has

  -- and each that it had is covered
  head_kept : (xs ys : List (Node Alloc)) → ArePruned all xs ys → (q : ℕ) (f : NumberedFrame) (m : ℕ) → (by_number xs).Has q f m
      → (n : ℕ) × (by_number ys).Has q f n × IsWithin all m n
  head_kept xs ys are q f m has =
      some_at (λ x. Member (head_over f m) x.heads.items) (λ n y. Member (head_over f n) y.heads.items) (IsWithin all m) one xs ys are q has
    where
      one : (x y : Node Alloc) → IsPruned all x y → Member (head_over f m) x.heads.items
          → (n : ℕ) × Member (head_over f n) y.heads.items × IsWithin all m n
      one x y is member =
          let (other, member', covers) = is.1.1 (head_over f m) member in
          (other.below, subst (λ z. Member (head_over z other.below) y.heads.items) covers.0 member', covers.1)

-- ---- the nodes of a turn

module _ {Alloc : Type 0} (before nodes pruned : List (Node Alloc)) (are : ArePruned (before ++ nodes) nodes pruned) where
  abbrev turn : List (Node Alloc)
  turn = before ++ nodes

  abbrev fewer : List (Node Alloc)
  fewer = before ++ pruned

  both : ArePruned turn turn fewer
  both = pruned_behind turn before nodes pruned are

  stack_was : (stack : List NumberedFrame) (q : ℕ) → InNode (by_number fewer) q stack → InNode (by_number turn) q stack
  stack_was [] q bare = bare_was turn turn fewer both q bare
  stack_was (f ∷ fs) q (m, has, inside) = (m, head_was turn turn fewer both q f m has, stack_was fs m inside)

  stack_kept : (stack : List NumberedFrame) (q : ℕ) → InNode (by_number turn) q stack → InNode (by_number fewer) q stack
  stack_kept [] q bare = bare_kept turn turn fewer both q bare
  stack_kept (f ∷ fs) q (m, has, inside) =
      let (n, has', within) = head_kept turn turn fewer both q f m has in
      (n, has', stack_kept fs n (within fs inside))

  -- they have the same stacks
  pub pruned_stacks : (q : ℕ) (stack : List NumberedFrame) → InNode (by_number fewer) q stack ↔ InNode (by_number turn) q stack
  pruned_stacks q stack = (stack_was stack q, stack_kept stack q)

  pub pruned_whole : AreWhole turn → AreWhole fewer
  pruned_whole whole = record {
    within = λ q f r has.
        let small : r < length turn = whole.within q f r (head_was turn turn fewer both q f r has) in
        let same = pruned_length turn turn fewer both in
        omega (arith, small, same);
    full = λ q f r has.
        let (stack, inside) = whole.full q f r (head_was turn turn fewer both q f r has) in
        (stack, stack_kept stack r inside);
  }

  -- and reach no further
  pub pruned_reach : (n : ℕ) → ReachBelow (n + length nodes) nodes → ReachBelow (n + length pruned) pruned
  pruned_reach n reach i f r has =
      let small : r < n + length nodes = reach i f r (head_was turn nodes pruned are i f r has) in
      let same = pruned_length turn nodes pruned are in
      omega (arith, small, same)
