-- Pairs that are a simulation: the second node of each has all stacks of the first.
use Rattle.std.proofs.Common.{◌≡◌, ◌⊎◌, ◌<◌, ◌≤◌, ◌+◌, ◌++◌, ℕ, zero, suc, Bool, true, false, List, [], ◌∷◌, length, inl, inr}
use Rattle.std.proofs.Common.{sym, ap, ◌∙◌, subst, take, get_or, arith, append-nil}
use Rattle.std.specs.List.{list_any}
use Rattle.std.specs.Prelude.{if◌then◌else◌}
use Rattle.std.proofs.lemmas.List.{take_all}
use Rattle.language.proofs.Members.{member_append}
use Rattle.std.proofs.lemmas.Option.{slice_get_within}
use Rattle.language.specs.Lists.{Member}
use Rattle.turns.specs.Stacks.{InNode}
use Rattle.turns.specs.declared.numbered_frame.NumberedFrame.{NumberedFrame}
use Rattle.stack_sets.proofs.MemberLemmas.{place_member}
use Rattle.stack_sets.proofs.NodeLemmas.{frame_eq, same_frame}
use Rattle.stack_sets.proofs.PlaceLemmas.{at_is, is_at}
use Rattle.stack_sets.specs.Nodes.{by_number, head_over}
use Rattle.stack_sets.specs.Within.{AreWithin, EachHolds, HasAll, HasMatch, Holds, IsUnder, pair_of}
use Rattle.stack_sets.specs.declared.inclusions.Pair.{Pair}
use Rattle.stack_sets.specs.declared.node.Head.{Head}
use Rattle.stack_sets.specs.declared.node.Node.{Node}

module _ {Alloc : Type 0} (nodes : List (Node Alloc)) (pairs known : List Pair) (are : AreWithin nodes known)
    (each : EachHolds nodes pairs known pairs) where
  under_within : (stack : List NumberedFrame) (q r : ℕ) → IsUnder pairs known q r → InNode (by_number nodes) q stack
      → InNode (by_number nodes) r stack
  under_within stack q r (inl same) inside = subst (λ z. InNode (by_number nodes) z stack) same inside
  under_within stack q r (inr (inl m)) inside = (are (pair_of q r) m).1 stack inside
  under_within [] q r (inr (inr m)) inside =
      let (one, other, at, at', all) = each (pair_of q r) m in
      at_is (λ node. node.bare ≡ true) nodes r other at' (all.0 (is_at (λ node. node.bare ≡ true) nodes q one at inside))
  under_within (f ∷ fs) q r (inr (inr m)) (k, has, inside) =
      let (one, other, at, at', all) = each (pair_of q r) m in
      let (n, member, under) = all.1 f k (is_at (λ node. Member (head_over f k) node.heads.items) nodes q one at has) in
      (n, at_is (λ node. Member (head_over f n) node.heads.items) nodes r other at' member, under_within fs k n under inside)

  -- the pairs are such
  pub simulated : AreWithin nodes pairs
  simulated p m =
      let (one, other, at, at', all) = each p m in
      (slice_get_within nodes p.under one at, λ stack inside. under_within stack p.under p.over (inr (inr m)) inside)

  -- what is known with them is such, too
  pub noted : (new : List Pair) → ((p : Pair) → Member p new → Member p known ⊎ Member p pairs) → AreWithin nodes new
  noted new from p m = elim (from p m) [ inl was ↦ are p was | inr now ↦ simulated p now ]

-- ---- what holds of each of some members

module _ {A : Type 0} (P : A → Type 0) where
  each_taken : (xs : List A) (i : ℕ) (d : A) → ((x : A) → Member x (take i xs) → P x) → P (get_or xs i d) → (x : A)
      → Member x (take (suc i) xs) → P x
  each_taken [] i d all here x m = absurd m
  each_taken (y ∷ xs) zero d all here x (inl same) = subst P (sym same) here
  each_taken (y ∷ xs) zero d all here x (inr m) = absurd m
  each_taken (y ∷ xs) (suc i) d all here x (inl same) = all x (inl same)
  each_taken (y ∷ xs) (suc i) d all here x (inr m) = each_taken xs i d (λ z m'. all z (inr m')) here x m

  -- of one more of them
  pub each_more : (xs : List A) (i : ℕ) (d : A) → ((x : A) → Member x (take i xs) → P x) → P (get_or xs i d) → (x : A)
      → Member x (take (i + 1) xs) → P x
  each_more xs i d all here x m =
      let next : i + 1 ≡ suc i = omega arith in
      each_taken xs i d all here x (subst (λ j. Member x (take j xs)) next m)

  -- of all
  pub each_whole : (xs : List A) (i : ℕ) → length xs ≤ i → ((x : A) → Member x (take i xs) → P x) → (x : A) → Member x xs → P x
  each_whole xs i large all x m = all x (subst (λ l. Member x l) (sym (take_all i xs large)) m)

-- what is found in a set to which one is added
pub found_more : (eq : Pair → Pair → Bool) (p : Pair) (old new : List Pair) → new ≡ (if list_any (eq p) old then old else old ++ p ∷ [])
    → (x : Pair)
    → Member x new → Member x old ⊎ (x ≡ p)
found_more eq p old new h x m = by (list_any (eq p) old) h
  where
    by : (b : Bool) → new ≡ (if b then old else old ++ p ∷ []) → Member x old ⊎ (x ≡ p)
    by true is = inl (subst (Member x) is m)
    by false is =
        elim (member_append x old (p ∷ []) (subst (Member x) is m)) [
          | inl was ↦ inl was
          | inr (inl same) ↦ inr same
          | inr (inr none) ↦ absurd none
        ]

-- one of the items
pub item_among : (items pairs : List Pair) (i : ℕ) (d p : Pair) → items ≡ pairs → i < length items → p ≡ get_or items i d
    → Member p pairs
item_among items pairs i d p same small is = subst (λ z. Member z pairs) (sym is) (subst (λ l. Member (get_or items i d) l) same
    (place_member items i d small))

-- ---- one step of a test

module _ (pairs known : List Pair) where
  -- a head that has the frame of another, over a node that is paired
  pub match_here : (heads : List Head) (i : ℕ) (d head : Head) → i < length heads
      → true ≡ frame_eq (get_or heads i d).frame head.frame → IsUnder pairs known head.below (get_or heads i d).below
      → HasMatch pairs known head heads
  match_here heads i d head small same under =
      let e : (get_or heads i d).frame ≡ head.frame = same_frame (get_or heads i d).frame head.frame (sym same) in (
        (get_or heads i d).below,
        subst (λ f. Member (head_over f (get_or heads i d).below) heads) e (place_member heads i d small),
        under,
      )

  -- one more head that has its match
  pub match_more : (heads items others others' : List Head) (i : ℕ) (d : Head) → items ≡ heads → others' ≡ others
      → ((h : Head) → Member h (take i heads) → HasMatch pairs known h others) → HasMatch pairs known (get_or items i d) others'
      → (h : Head) → Member h (take (i + 1) heads) → HasMatch pairs known h others
  match_more heads items others others' i d same same' all here =
      each_more (λ h. HasMatch pairs known h others) heads i d all
      (subst (λ l. HasMatch pairs known (get_or l i d) others) same (subst (λ l. HasMatch pairs known (get_or items i d) l) same' here))

  module _ {Alloc : Type 0} where
    -- all heads have theirs
    pub match_all : (one other : Node Alloc) (i : ℕ) → (one.bare ≡ true → other.bare ≡ true) → length one.heads.items ≤ i
        → ((h : Head) → Member h (take i one.heads.items) → HasMatch pairs known h other.heads.items) → HasAll pairs known one other
    match_all one other i bare large all =
        (bare, λ f m member. each_whole (λ h. HasMatch pairs known h other.heads.items) one.heads.items i large all (head_over f m) member)

    -- one more pair that holds
    pub holds_more : (nodes : List (Node Alloc)) (items : List Pair) (i : ℕ) (d : Pair) → items ≡ pairs
        → EachHolds nodes pairs known (take i pairs) → Holds nodes pairs known (get_or items i d)
        → EachHolds nodes pairs known (take (i + 1) pairs)
    holds_more nodes items i d same all here =
        each_more (Holds nodes pairs known) pairs i d all (subst (λ l. Holds nodes pairs known (get_or l i d)) same here)

    -- all hold
    pub holds_all : (nodes : List (Node Alloc)) (i : ℕ) → length pairs ≤ i → EachHolds nodes pairs known (take i pairs)
        → EachHolds nodes pairs known pairs
    holds_all nodes i large all = each_whole (Holds nodes pairs known) pairs i large all

-- none behind others
pub with_none : {A : Type 0} (xs ys zs : List A) → ys ≡ zs → zs ≡ [] → xs ++ ys ≡ xs
with_none xs ys zs same none = ap (λ l. xs ++ l) (same ∙ none) ∙ append-nil xs
