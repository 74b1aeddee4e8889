-- Heads over final numbers, final numbers that are given one after another, and lists that go on.
use Rattle.std.proofs.Common.{◌≡◌, ◌⊎◌, ◌<◌, ◌≤◌, ◌+◌, ◌++◌, ℕ, zero, suc, Option, None, Some, List, [], ◌∷◌, length, take, get_or}
use Rattle.std.proofs.Common.{slice_get}
use Rattle.std.proofs.Common.{inl, inr, refl, sym, ap, ◌∙◌, subst, arith, append_assoc, append-nil, false}
use Rattle.std.proofs.Common.{true≢false}
use Rattle.std.specs.Prelude.{slice_set, IsPermutation}
use Rattle.std.proofs.lemmas.List.Sorted.{IsPermutation-sym}
use Rattle.std.specs.Option.{is_some}
use Rattle.std.proofs.lemmas.List.{take_all}
use Rattle.std.proofs.lemmas.Option.{same_Some, none-some}
use Rattle.language.specs.Lists.{Member}
use Rattle.language.proofs.Members.{member_append, member_left, member_right}
use Rattle.turns.specs.declared.numbered_frame.NumberedFrame.{NumberedFrame}
use Rattle.stack_sets.specs.Nodes.{AtNode, IsPrefix, head_over}
use Rattle.stack_sets.specs.declared.node.Head.{Head}
use Rattle.stack_sets.specs.declared.node.Node.{Node}
use Rattle.naming.specs.Moves.{IsNumber, HasNumber, IsMoved, AreMoved, IsFilled, filled, missing}
use Rattle.naming.proofs.ListLemmas.{take_one}
use Rattle.naming.proofs.PlaceLemmas.{reordered}
use Rattle.stack_sets.proofs.PlaceLemmas.{at_left}

-- ---- lists that go on

module _ {Alloc : Type 0} where
  pub prefix_same : (xs : List (Node Alloc)) → IsPrefix xs xs
  prefix_same xs = ([], sym (append-nil xs))

  pub prefix_last : (xs ys : List (Node Alloc)) (y : Node Alloc) → ys ≡ xs ++ y ∷ [] → IsPrefix xs ys
  prefix_last xs ys y is = (y ∷ [], is)

  pub prefix_on : (xs ys zs : List (Node Alloc)) → IsPrefix xs ys → IsPrefix ys zs → IsPrefix xs zs
  prefix_on xs ys zs (more, is) (more', is') = (more ++ more', is' ∙ ap (λ l. l ++ more') is ∙ append_assoc xs more more')

  pub at_on : (P : Node Alloc → Type 0) (xs ys : List (Node Alloc)) → IsPrefix xs ys → (i : ℕ) → AtNode (slice_get xs i) P
      → AtNode (slice_get ys i) P
  at_on P xs ys (more, is) i at = subst (λ l. AtNode (slice_get l i) P) (sym is) (at_left P xs more i at)

  -- ---- one node

  pub at_as : (P Q : Node Alloc → Type 0) → ((x : Node Alloc) → P x → Q x) → (o : Option (Node Alloc)) → AtNode o P → AtNode o Q
  at_as P Q sub None at = absurd at
  at_as P Q sub (Some x) at = sub x at

  pub at_both : (P Q : Node Alloc → Type 0) (o : Option (Node Alloc)) → AtNode o P → AtNode o Q → (x : Node Alloc) × P x × Q x
  at_both P Q None p q = absurd p
  at_both P Q (Some x) p q = (x, p, q)

-- ---- final numbers that are known stay

module _ (base : ℕ) (Is Js : ℕ → ℕ → Type 0) (sub : (i n : ℕ) → Is i n → Js i n) where
  pub moved_as : (m n : ℕ) → IsMoved base Is m n → IsMoved base Js m n
  moved_as m n (inl old) = inl old
  moved_as m n (inr (i, e, is)) = inr (i, e, sub i n is)

  pub are_moved_as : (xs ys : List Head) → AreMoved base Is xs ys → AreMoved base Js xs ys
  are_moved_as xs ys (there, back) = (
    λ f m member. let (n, member', mv) = there f m member in (n, member', moved_as m n mv),
    λ f n member. let (m, member', mv) = back f n member in (m, member', moved_as m n mv),
  )

-- ---- heads one by one

module _ (base : ℕ) (Is : ℕ → ℕ → Type 0) where
  pub none_moved : AreMoved base Is [] []
  none_moved = (λ f m member. absurd member, λ f n member. absurd member)

  moved_last : (xs ys : List Head) (x y : Head) → AreMoved base Is xs ys → y.frame ≡ x.frame → IsMoved base Is x.below y.below
      → AreMoved base Is (xs ++ x ∷ []) (ys ++ y ∷ [])
  moved_last xs ys x y (there, back) frame below = (
    λ f m member.
        elim (member_append (head_over f m) xs (x ∷ []) member) [
          | inl was ↦
              let (n, member', mv) = there f m was in
              (n, member_left (head_over f n) ys (y ∷ []) member', mv)
          | inr (inl same) ↦
              let same_f : f ≡ y.frame = ap (λ (h : Head). h.frame) same ∙ sym frame in
              let same_m : m ≡ x.below = ap (λ (h : Head). h.below) same in (
                y.below,
                member_right (head_over f y.below) ys (y ∷ []) (inl (ap (λ z. head_over z y.below) same_f)),
                subst (λ z. IsMoved base Is z y.below) (sym same_m) below,
              )
          | inr (inr none) ↦ absurd none
        ],
    λ f n member.
        elim (member_append (head_over f n) ys (y ∷ []) member) [
          | inl was ↦
              let (m, member', mv) = back f n was in
              (m, member_left (head_over f m) xs (x ∷ []) member', mv)
          | inr (inl same) ↦
              let same_f : f ≡ x.frame = ap (λ (h : Head). h.frame) same ∙ frame in
              let same_n : n ≡ y.below = ap (λ (h : Head). h.below) same in (
                x.below,
                member_right (head_over f x.below) xs (x ∷ []) (inl (ap (λ z. head_over z x.below) same_f)),
                subst (λ z. IsMoved base Is x.below z) (sym same_n) below,
              )
          | inr (inr none) ↦ absurd none
        ],
  )

  pub moved_step : (xs : List Head) (i : ℕ) (d : Head) (ys ys' : List Head) (n : ℕ) → i < length xs → AreMoved base Is (take i xs) ys
      → IsMoved base Is (get_or xs i d).below n → ys' ≡ ys ++ head_over (get_or xs i d).frame n ∷ []
      → AreMoved base Is (take (i + 1) xs) ys'
  moved_step xs i d ys ys' n small are below more =
      subst (λ l. AreMoved base Is l ys') (sym (take_one xs i d small)) (subst (λ l. AreMoved base Is (take i xs ++ get_or xs i d ∷ []) l)
      (sym more)
      (moved_last (take i xs) ys (get_or xs i d) (head_over (get_or xs i d).frame n) are refl below))

  pub moved_whole : (xs xs' : List Head) (i : ℕ) (ys zs : List Head) → length xs ≤ i → xs ≡ xs' → AreMoved base Is (take i xs) ys
      → IsPermutation ys zs → AreMoved base Is xs' zs
  moved_whole xs xs' i ys zs large same are order =
      let (there, back) = subst (λ l. AreMoved base Is l ys) (take_all i xs large ∙ same) are in (
        λ f m member. let (n, member', mv) = there f m member in (n, reordered ys zs (head_over f n) order member', mv),
        λ f n member. back f n (reordered zs ys (head_over f n) (IsPermutation-sym ys zs order) member),
      )

-- ---- a number is put down

pub set_gives : {A : Type 0} (xs : List A) (i j : ℕ) (y z : A) → slice_get (slice_set xs i y) j ≡ Some z
    → (slice_get xs j ≡ Some z) ⊎ ((j ≡ i) × (y ≡ z))
set_gives [] i j y z at = absurd (none-some z at)
set_gives (x ∷ xs) zero zero y z at = inr (refl, same_Some y z at)
set_gives (x ∷ xs) zero (suc j) y z at = inl at
set_gives (x ∷ xs) (suc i) zero y z at = inl at
set_gives (x ∷ xs) (suc i) (suc j) y z at =
    elim (set_gives xs i j y z at) [ inl was ↦ inl was | inr (e, same) ↦ inr (ap suc e, same) ]

pub set_keeps : (names : List (Option ℕ)) (i k j n : ℕ) → slice_get names i ≡ Some None → HasNumber names j n
    → HasNumber (slice_set names i (Some k)) j n
set_keeps [] i k j n none has = absurd (none-some None none)
set_keeps (x ∷ names) zero k zero n none has = absurd (none-some n (same_Some None (Some n) (sym none ∙ has)))
set_keeps (x ∷ names) zero k (suc j) n none has = has
set_keeps (x ∷ names) (suc i) k zero n none has = has
set_keeps (x ∷ names) (suc i) k (suc j) n none has = set_keeps names i k j n none has

-- ---- numbers that were missing

pub filled_length : (next : ℕ) (names : List (Option ℕ)) → length (filled next names) ≡ length names
filled_length next [] = refl
filled_length next (Some n ∷ names) = ap suc (filled_length next names)
filled_length next (None ∷ names) = ap suc (filled_length (next + 1) names)

pub filled_has : (next : ℕ) (names : List (Option ℕ)) (i n : ℕ) → HasNumber names i n → IsNumber (filled next names) i n
filled_has next [] i n has = absurd (none-some (Some n) has)
filled_has next (Some m ∷ names) zero n has = same_Some (Some m) (Some n) has
filled_has next (Some m ∷ names) (suc i) n has = filled_has next names i n has
filled_has next (None ∷ names) zero n has = absurd (none-some n (same_Some None (Some n) has))
filled_has next (None ∷ names) (suc i) n has = filled_has (next + 1) names i n has

pub filled_none : (next : ℕ) (names : List (Option ℕ)) (i : ℕ) → slice_get names i ≡ Some None
    → IsNumber (filled next names) i (next + missing (take i names))
filled_none next [] i none = absurd (none-some None none)
filled_none next (Some m ∷ names) zero none = absurd (none-some m (sym (same_Some (Some m) None none)))
filled_none next (Some m ∷ names) (suc i) none = filled_none next names i none
filled_none next (None ∷ names) zero none = let e : next ≡ next + zero = omega arith in ap Some e
filled_none next (None ∷ names) (suc i) none =
    let e : (next + 1) + missing (take i names) ≡ next + (missing (take i names) + 1) = omega arith in
    filled_none (next + 1) names i none ∙ ap Some e

pub missing_last : (xs : List (Option ℕ)) (x : Option ℕ) → missing (xs ++ x ∷ []) ≡ missing xs + missing (x ∷ [])
missing_last [] x = omega arith
missing_last (Some n ∷ xs) x = missing_last xs x
missing_last (None ∷ xs) x = let rest = missing_last xs x in omega (arith, rest)

filled_last : (first : ℕ) (xs : List (Option ℕ)) (x : Option ℕ)
    → filled first (xs ++ x ∷ []) ≡ filled first xs ++ filled (first + missing xs) (x ∷ [])
filled_last first [] x = let e : first ≡ first + zero = omega arith in ap (λ z. filled z (x ∷ [])) e
filled_last first (Some n ∷ xs) x = ap (λ l. n ∷ l) (filled_last first xs x)
filled_last first (None ∷ xs) x =
    let e : (first + 1) + missing xs ≡ first + (missing xs + 1) = omega arith in
    ap (λ l. first ∷ l) (filled_last (first + 1) xs x ∙ ap (λ z. filled (first + 1) xs ++ filled z (x ∷ [])) e)

-- one number more
filled_one : (first : ℕ) (xs : List (Option ℕ)) (x : Option ℕ) (all : List ℕ) (next n next' : ℕ) → all ≡ filled first xs
    → next ≡ first + missing xs → IsFilled x next n next'
    → (all ++ n ∷ [] ≡ filled first (xs ++ x ∷ [])) × (next' ≡ first + missing (xs ++ x ∷ []))
filled_one first xs (Some m) all next n next' is count (same, stays) =
    let e = missing_last xs (Some m) in (
      ap₂' is same ∙ sym (filled_last first xs (Some m)),
      omega (arith, count, stays, e),
    )
  where
    ap₂' : all ≡ filled first xs → n ≡ m → all ++ n ∷ [] ≡ filled first xs ++ m ∷ []
    ap₂' a b = ap (λ l. l ++ n ∷ []) a ∙ ap (λ z. filled first xs ++ z ∷ []) b
filled_one first xs None all next n next' is count (same, more) =
    let e = missing_last xs None in (
      ap (λ l. l ++ n ∷ []) is ∙ ap (λ z. filled first xs ++ z ∷ []) (same ∙ count) ∙ sym (filled_last first xs None),
      omega (arith, count, more, e),
    )

pub filled_more : (first : ℕ) (names : List (Option ℕ)) (i : ℕ) (d : Option ℕ) (all all' : List ℕ) (next n next' : ℕ) → i < length names
    → all ≡ filled first (take i names) → next ≡ first + missing (take i names) → IsFilled (get_or names i d) next n next'
    → all' ≡ all ++ n ∷ [] → (all' ≡ filled first (take (i + 1) names)) × (next' ≡ first + missing (take (i + 1) names))
filled_more first names i d all all' next n next' small is count one more =
    let (is', count') = filled_one first (take i names) (get_or names i d) all next n next' is count one in
    let same = sym (take_one names i d small) in
    (more ∙ is' ∙ ap (filled first) same, count' ∙ ap (λ l. first + missing l) same)

pub is_none : (o : Option ℕ) → false ≡ is_some o → o ≡ None
is_none None h = refl
is_none (Some n) h = absurd (true≢false (sym h))
