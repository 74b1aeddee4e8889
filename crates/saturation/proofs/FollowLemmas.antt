-- Lists of items that go on.
use Rattle.std.proofs.Common.{◌≡◌, ◌⊎◌, ◌++◌, ◌+◌, ℕ, zero, suc, List, [], ◌∷◌, Some, slice_get, get_or, take, length, ◌<◌, inl, inr, sym}
use Rattle.std.proofs.Common.{ap, ◌∙◌, subst, ◌≤◌, arith}
use Rattle.std.specs.Prelude.{Result, Ok, Err, OnOk}
use Rattle.std.proofs.lemmas.List.{append-nil, append_assoc, take_all}
use Rattle.std.proofs.lemmas.Option.{same_Some, none-some, slice_get-get_or}
use Rattle.language.specs.Lists.{Member}
use Rattle.language.proofs.Members.{member_append, member_left}
use Rattle.saturation.specs.Items.{Found, item_of, IsAmong, Extends}
use Rattle.saturation.specs.Leads.{HaveAll, OfSome}
use Rattle.saturation.specs.declared.item.Item.{Item}

-- a list goes on as itself
pub extends_none : (P : Found → Type 0) (xs : List Item) → Extends P xs xs
extends_none P xs = ([], sym (append-nil xs), λ item m. absurd m)

-- what goes on by more goes on
pub extends_then : (P : Found → Type 0) (xs ys zs : List Item) → Extends P xs ys → Extends P ys zs → Extends P xs zs
extends_then P xs ys zs (one, first, holds) (two, second, holds') = (
  one ++ two,
  second ∙ ap (λ l. l ++ two) first ∙ append_assoc xs one two,
  λ item m. elim (member_append item one two m) [ inl f ↦ holds item f | inr f ↦ holds' item f ],
)

-- for what holds whenever P does
pub extends_as : (P Q : Found → Type 0) → ((x : Found) → P x → Q x) → (xs ys : List Item) → Extends P xs ys → Extends Q xs ys
extends_as P Q then xs ys (more, is, holds) = (more, is, λ item m. then (item_of item) (holds item m))

-- what is among a list is among one that goes on as it does
pub among_more : (P : Found → Type 0) (xs ys : List Item) → Extends P xs ys → (x : Found) → IsAmong xs x → IsAmong ys x
among_more P xs ys (more, is, holds) x (item, m, same) = (item, subst (Member item) (sym is) (member_left item xs more m), same)

pub have_more : (W P : Found → Type 0) (xs ys : List Item) → Extends P xs ys → HaveAll W xs → HaveAll W ys
have_more W P xs ys extends have x w = among_more P xs ys extends x (have x w)

-- one of the first i + 1 is one of the first i, or the one at i
pub taken : {A : Type 0} (xs : List A) (i : ℕ) (x y : A) → slice_get xs i ≡ Some x → Member y (take (suc i) xs)
    → Member y (take i xs) ⊎ (y ≡ x)
taken [] i x y at m = absurd m
taken (z ∷ xs) zero x y at (inl same) = inr (same ∙ same_Some z x at)
taken (z ∷ xs) zero x y at (inr m) = absurd m
taken (z ∷ xs) (suc i) x y at (inl same) = inl (inl same)
taken (z ∷ xs) (suc i) x y at (inr m) = elim (taken xs i x y at m) [ inl f ↦ inl (inr f) | inr same ↦ inr same ]

-- the one at a place is a member
pub member_at : {A : Type 0} (xs : List A) (i : ℕ) (x : A) → slice_get xs i ≡ Some x → Member x xs
member_at [] i x at = absurd (none-some x at)
member_at (z ∷ xs) zero x at = inl (sym (same_Some z x at))
member_at (z ∷ xs) (suc i) x at = inr (member_at xs i x at)

-- what an Ok gives, it gives whatever follows
pub ok_map : {A E : Type 0} {P Q : Type 0} (r : Result A E) → (P → Q) → OnOk r P → OnOk r Q
ok_map (Ok v) f p = f p
ok_map (Err e) f p = p

module _ {Part : Type 0} (W : Part → Found → Type 0) (parts : List Part) (i : ℕ) (part : Part) (at : slice_get parts i ≡ Some part) where
  -- a list that goes on by what one part leads to goes on by what some part leads to
  pub each_only : (xs ys zs : List Item) → Extends (OfSome W parts) xs ys → Extends (W part) ys zs → Extends (OfSome W parts) xs zs
  each_only xs ys zs before now =
      extends_then (OfSome W parts) xs ys zs before
      (extends_as (W part) (OfSome W parts) (λ x is. (part, member_at parts i part at, is)) ys zs now)

  -- what one part more leads to is there
  pub each_all : (ys zs : List Item) → HaveAll (OfSome W (take i parts)) ys → Extends (W part) ys zs → HaveAll (W part) zs
      → HaveAll (OfSome W (take (suc i) parts)) zs
  each_all ys zs before now have x (other, m, is) =
      elim (taken parts i part other at m) [
        | inl earlier ↦ among_more (W part) ys zs now x (before x (other, earlier, is))
        | inr same ↦ have x (subst (λ z. W z x) same is)
      ]

-- when all parts are taken, what some part leads to is there
pub each_done : {Part : Type 0} (W : Part → Found → Type 0) (parts : List Part) (i : ℕ) (ys : List Item) → length parts ≤ i
    → HaveAll (OfSome W (take i parts)) ys → HaveAll (OfSome W parts) ys
each_done W parts i ys past have x (part, m, is) = have x (part, subst (Member part) (sym (take_all i parts past)) m, is)

-- the same for the part at a place of a list, of which something else is a function
module _ {Part Seen : Type 0} (W : Part → Found → Type 0) (V : Seen → Found → Type 0) (see : Part → Seen)
    (as_seen : (part : Part) → W part ≡ V (see part))
    (parts : List Part) (i : ℕ) (d : Part) (within : i < length parts) (seen : Seen) (is : seen ≡ see (get_or parts i d)) where
  abbrev part : Part
  part = get_or parts i d

  as_part : V seen ≡ W part
  as_part = ap V is ∙ sym (as_seen part)

  pub seen_only : (xs ys zs : List Item) → Extends (OfSome W parts) xs ys → Extends (V seen) ys zs → Extends (OfSome W parts) xs zs
  seen_only xs ys zs before now =
      each_only W parts i part (slice_get-get_or parts i d within) xs ys zs before (subst (λ P. Extends P ys zs) as_part now)

  pub seen_all : (ys zs : List Item) → HaveAll (OfSome W (take i parts)) ys → Extends (V seen) ys zs → HaveAll (V seen) zs
      → HaveAll (OfSome W (take (i + 1) parts)) zs
  seen_all ys zs before now have =
      let next : suc i ≡ i + 1 = omega arith in
      subst (λ n. HaveAll (OfSome W (take n parts)) zs) next
      (each_all W parts i part (slice_get-get_or parts i d within) ys zs before (subst (λ P. Extends P ys zs) as_part now)
      (subst (λ P. HaveAll P zs) as_part have))

-- what holds, holds at an Ok
pub at_ok : {A E : Type 0} {P : Type 0} (r : Result A E) → P → OnOk r P
at_ok (Ok v) p = p
at_ok (Err e) p = tt
