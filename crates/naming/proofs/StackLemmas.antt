-- Nodes that are kept over final numbers have the stacks of those of the turn.
use Rattle.std.proofs.Common.{◌≡◌, ◌↔◌, ◌<◌, ◌+◌, ◌++◌, ℕ, true, Some, List, length, slice_get, inl, inr, refl, sym, ◌∙◌, ap}
use Rattle.std.proofs.Common.{subst, arith}
use Rattle.std.proofs.lemmas.Bool.{cases_lt}
use Rattle.std.proofs.lemmas.List.{length-append}
use Rattle.language.specs.Lists.{Member}
use Rattle.turns.specs.Stacks.{InNode, IsSimulation}
use Rattle.turns.specs.declared.numbered_frame.NumberedFrame.{NumberedFrame}
use Rattle.turns.proofs.NodeLemmas.{no_more_stacks}
use Rattle.stack_sets.specs.Nodes.{AtNode, IsPrefix, by_number, head_over}
use Rattle.stack_sets.specs.Turns.{AreWhole}
use Rattle.stack_sets.specs.declared.node.Node.{Node}
use Rattle.naming.specs.Moves.{IsMoved, IsKept, AreKept}
use Rattle.naming.proofs.MoveLemmas.{at_on, at_as, at_both}
use Rattle.stack_sets.proofs.PlaceLemmas.{at_is, is_at, at_left, at_right, at_before, right_at, at_within}

module _ {Alloc : Type 0} (before nodes there : List (Node Alloc)) (whole : AreWhole before) (prefix : IsPrefix before there)
    (Is : ℕ → ℕ → Type 0) (are : AreKept (length before) Is Is nodes there) where
  abbrev base : ℕ
  base = length before

  -- the nodes of the turn, behind those from before it
  abbrev pub turn : List (Node Alloc)
  turn = before ++ nodes

  abbrev Under : ℕ → ℕ → Type 0
  Under m n = IsMoved base Is m n

  abbrev Bears : NumberedFrame → ℕ → Node Alloc → Type 0
  Bears f n node = Member (head_over f n) node.heads.items

  abbrev IsBare : Node Alloc → Type 0
  IsBare node = node.bare ≡ true

  -- ---- a node of the turn, and the one that is kept for it

  bare_there : (i n : ℕ) (node : Node Alloc) → slice_get nodes i ≡ Some node → IsKept base Is there node n
      → (by_number turn).Bare (base + i) → (by_number there).Bare n
  bare_there i n node at (heads, moved, here) bare =
      let is : node.bare ≡ true = is_at IsBare nodes i node at (right_at IsBare before nodes i bare) in
      at_as (λ x. (x.bare ≡ node.bare) × (x.heads.items ≡ heads)) IsBare (λ x p. p.0 ∙ is) (slice_get there n) here

  has_there : (i n : ℕ) (node : Node Alloc) → slice_get nodes i ≡ Some node → IsKept base Is there node n → (f : NumberedFrame) (m : ℕ)
      → (by_number turn).Has (base + i) f m → (k : ℕ) × (by_number there).Has n f k × Under m k
  has_there i n node at (heads, moved, here) f m has =
      let member = is_at (Bears f m) nodes i node at (right_at (Bears f m) before nodes i has) in
      let (k, member', mv) = moved.0 f m member in (
        k,
        at_as (λ x. (x.bare ≡ node.bare) × (x.heads.items ≡ heads)) (Bears f k) (λ x p. subst (Member (head_over f k)) (sym p.1) member')
            (slice_get there n) here,
        mv,
      )

  bare_back : (i n : ℕ) (node : Node Alloc) → slice_get nodes i ≡ Some node → IsKept base Is there node n
      → (by_number there).Bare n → (by_number turn).Bare (base + i)
  bare_back i n node at (heads, moved, here) bare =
      let (x, is, bare') = at_both (λ x. (x.bare ≡ node.bare) × (x.heads.items ≡ heads)) IsBare (slice_get there n) here bare in
      at_right IsBare before nodes i (at_is IsBare nodes i node at (sym is.0 ∙ bare'))

  has_back : (i n : ℕ) (node : Node Alloc) → slice_get nodes i ≡ Some node → IsKept base Is there node n → (f : NumberedFrame) (k : ℕ)
      → (by_number there).Has n f k → (m : ℕ) × (by_number turn).Has (base + i) f m × Under m k
  has_back i n node at (heads, moved, here) f k has =
      let (x, is, member) = at_both (λ x. (x.bare ≡ node.bare) × (x.heads.items ≡ heads)) (Bears f k) (slice_get there n) here has in
      let (m, member', mv) = moved.1 f k (subst (Member (head_over f k)) is.1 member) in
      (m, at_right (Bears f m) before nodes i (at_is (Bears f m) nodes i node at member'), mv)

  -- ---- stacks

  into : IsSimulation (by_number turn) (by_number there) Under
  into m n (inl (small, same)) = (
    λ bare.
        subst (λ z. (by_number there).Bare z) (sym same) (at_on IsBare before there prefix m (at_before IsBare before nodes m small bare)),
    λ f k has.
        let was : (by_number before).Has m f k = at_before (Bears f k) before nodes m small has in (
          k,
          subst (λ z. (by_number there).Has z f k) (sym same) (at_on (Bears f k) before there prefix m was),
          inl (whole.within m f k was, refl),
        ),
  )
  into m n (inr (i, e, is)) =
      let (node, at, kept) = are.kept i n is in (
        λ bare. bare_there i n node at kept (subst (λ z. (by_number turn).Bare z) e bare),
        λ f k has. has_there i n node at kept f k (subst (λ z. (by_number turn).Has z f k) e has),
      )

  was_there : (P : Node Alloc → Type 0) (m : ℕ) → m < base → AtNode (slice_get there m) P → AtNode (slice_get before m) P
  was_there P m small at = at_before P before prefix.0 m small (subst (λ l. AtNode (slice_get l m) P) prefix.1 at)

  out : IsSimulation (by_number there) (by_number turn) (λ n m. Under m n)
  out n m (inl (small, same)) = (
    λ bare. at_left IsBare before nodes m (was_there IsBare m small (subst (λ z. (by_number there).Bare z) same bare)),
    λ f k has.
        let was : (by_number before).Has m f k = was_there (Bears f k) m small (subst (λ z. (by_number there).Has z f k) same has) in
        (k, at_left (Bears f k) before nodes m was, inl (whole.within m f k was, refl)),
  )
  out n m (inr (i, e, is)) =
      let (node, at, kept) = are.kept i n is in (
        λ bare. subst (λ z. (by_number turn).Bare z) (sym e) (bare_back i n node at kept bare),
        λ f k has.
            let (j, has', mv) = has_back i n node at kept f k has in
            (j, subst (λ z. (by_number turn).Has z f j) (sym e) has', mv),
      )

  -- a node has the stacks of the one that is kept for it
  pub kept_stacks : (m n : ℕ) → Under m n → (stack : List NumberedFrame)
      → InNode (by_number there) n stack ↔ InNode (by_number turn) m stack
  kept_stacks m n under stack = (
    λ inside. no_more_stacks (by_number there) (by_number turn) (λ r q. Under q r) out stack n m under inside,
    λ inside. no_more_stacks (by_number turn) (by_number there) Under into stack m n under inside,
  )

  -- ---- the nodes

  pub kept_within : (m n : ℕ) → Under m n → n < length there
  kept_within m n (inl (small, same)) =
      let grown = ap length prefix.1 ∙ length-append before prefix.0 in
      omega (arith, small, same, grown)
  kept_within m n (inr (i, e, is)) =
      let (node, at, kept) = are.kept i n is in
      at_within (λ x. (x.bare ≡ node.bare) × (x.heads.items ≡ kept.0)) there n kept.2

  over_what : (q : ℕ) (f : NumberedFrame) (r : ℕ) → (by_number there).Has q f r
      → (p : ℕ) × (m : ℕ) × (by_number turn).Has p f m × Under m r
  over_what q f r has =
      elim (cases_lt q base) [
        | inl small ↦
            let was : (by_number before).Has q f r = was_there (Bears f r) q small has in
            (q, r, at_left (Bears f r) before nodes q was, inl (whole.within q f r was, refl))
        | inr large ↦
            let (i, m, has', mv) = are.moved q f r large has in
            (base + i, m, at_right (Bears f m) before nodes i has', mv)
      ]

  pub kept_whole : AreWhole turn → AreWhole there
  kept_whole full = record {
    within = λ q f r has. let (p, m, has', under) = over_what q f r has in kept_within m r under;
    full = λ q f r has.
        let (p, m, has', under) = over_what q f r has in
        let (stack, inside) = full.full p f m has' in
        (stack, (kept_stacks m r under stack).1 inside);
  }
