-- What is left to run after a step is again left from a statement of the block on, or what comes after it.
use Rattle.std.proofs.Common.{◌≡◌, Bool, true, false, cond, ◌++◌, ◌⊎◌, Option, Some, None, inl, inr, refl, sym, subst}
use Rattle.std.proofs.lemmas.Option.{none-some, same_Some}
use Rattle.language.specs.Tree.{Mark, RightSide, Simple, done, one, choose, loop}
use Rattle.language.specs.Value.{Place}
use Rattle.language.specs.Rest.{Label, Code, join, has_label, first_of_two, rest_from}
use Rattle.language.specs.Flow.{rests, IsRestOf}
use Rattle.language.specs.Lists.{Member}
use Rattle.language.proofs.Members.{member_left, member_right, member_append}

-- r is what comes after the block, or left from one of its statements on
abbrev In : Code → Code → Code → Type 0
In b k r = (r ≡ k) ⊎ Member r (rests b k)

-- the whole block is left from its first statement on, if it has one
pub in_whole : (b k : Code) → In b k (join b k)
in_whole done k = inl refl
in_whole _ k = inr (inl refl)

-- r' can be what is left to run after a step that begins with r
abbrev pub Follows : Code → Code → Type 0
Follows done r' = ⊥
Follows (one m s t) r' = r' ≡ t
Follows (choose m r a b t) r' = (r' ≡ join a t) ⊎ (r' ≡ join b t)
Follows (loop m r a t) r' = (r' ≡ join a (loop m r a t)) ⊎ (r' ≡ t)

-- the rests of the statements after one are rests of both
in_one : (m : Mark Label) (s : Simple Place _ Label) (t k r : Code) → In t k r → In (one m s t) k r
in_one m s t k r (inl e) = inl e
in_one m s t k r (inr f) = inr (inr f)

in_choose_tail : (m : Mark Label) (c : RightSide Place) (a b t k r : Code) → In t k r → In (choose m c a b t) k r
in_choose_tail m c a b t k r (inl e) = inl e
in_choose_tail m c a b t k r (inr f) =
    inr (inr (member_right r (rests a (join t k)) (rests b (join t k) ++ rests t k) (member_right r (rests b (join t k)) (rests t k) f)))

in_choose_first : (m : Mark Label) (c : RightSide Place) (a b t k r : Code) → In a (join t k) r → In (choose m c a b t) k r
in_choose_first m c a b t k r (inl e) =
    subst (In (choose m c a b t) k) (sym e) (in_choose_tail m c a b t k (join t k) (in_whole t k))
in_choose_first m c a b t k r (inr f) = inr (inr (member_left r (rests a (join t k)) (rests b (join t k) ++ rests t k) f))

in_choose_second : (m : Mark Label) (c : RightSide Place) (a b t k r : Code) → In b (join t k) r → In (choose m c a b t) k r
in_choose_second m c a b t k r (inl e) =
    subst (In (choose m c a b t) k) (sym e) (in_choose_tail m c a b t k (join t k) (in_whole t k))
in_choose_second m c a b t k r (inr f) =
    inr (inr (member_right r (rests a (join t k)) (rests b (join t k) ++ rests t k) (member_left r (rests b (join t k)) (rests t k) f)))

in_loop_tail : (m : Mark Label) (c : RightSide Place) (a t k r : Code) → In t k r → In (loop m c a t) k r
in_loop_tail m c a t k r (inl e) = inl e
in_loop_tail m c a t k r (inr f) = inr (inr (member_right r (rests a (loop m c a (join t k))) (rests t k) f))

in_loop_body : (m : Mark Label) (c : RightSide Place) (a t k r : Code) → In a (loop m c a (join t k)) r → In (loop m c a t) k r
in_loop_body m c a t k r (inl e) = inr (inl e)
in_loop_body m c a t k r (inr f) = inr (inr (member_left r (rests a (loop m c a (join t k))) (rests t k) f))

-- what follows a statement of the block is left from one of its statements on, or comes after it
pub in_follows : (b k r r' : Code) → Member r (rests b k) → Follows r r' → In b k r'
in_follows done k r r' f next = absurd f
in_follows (one m s t) k r r' (inl e) next =
    subst (In (one m s t) k) (sym (subst (λ z. Follows z r') e next)) (in_one m s t k (join t k) (in_whole t k))
in_follows (one m s t) k r r' (inr f) next = in_one m s t k r' (in_follows t k r r' f next)
in_follows (choose m c a b t) k r r' (inl e) next = of_branch (subst (λ z. Follows z r') e next)
  where
    of_branch : Follows (choose m c a b (join t k)) r' → In (choose m c a b t) k r'
    of_branch (inl same) =
        subst (In (choose m c a b t) k) (sym same) (in_choose_first m c a b t k (join a (join t k)) (in_whole a (join t k)))
    of_branch (inr same) =
        subst (In (choose m c a b t) k) (sym same) (in_choose_second m c a b t k (join b (join t k)) (in_whole b (join t k)))
in_follows (choose m c a b t) k r r' (inr f) next =
    elim (member_append r (rests a (join t k)) (rests b (join t k) ++ rests t k) f) [
      | inl g ↦ in_choose_first m c a b t k r' (in_follows a (join t k) r r' g next)
      | inr g ↦ elim (member_append r (rests b (join t k)) (rests t k) g) [
        | inl h ↦ in_choose_second m c a b t k r' (in_follows b (join t k) r r' h next)
        | inr h ↦ in_choose_tail m c a b t k r' (in_follows t k r r' h next)
      ]
    ]
in_follows (loop m c a t) k r r' (inl e) next = of_loop (subst (λ z. Follows z r') e next)
  where
    of_loop : Follows (loop m c a (join t k)) r' → In (loop m c a t) k r'
    of_loop (inl same) =
        subst (In (loop m c a t) k) (sym same)
        (in_loop_body m c a t k (join a (loop m c a (join t k))) (in_whole a (loop m c a (join t k))))
    of_loop (inr same) = subst (In (loop m c a t) k) (sym same) (in_loop_tail m c a t k (join t k) (in_whole t k))
in_follows (loop m c a t) k r r' (inr f) next =
    elim (member_append r (rests a (loop m c a (join t k))) (rests t k) f) [
      | inl g ↦ in_loop_body m c a t k r' (in_follows a (loop m c a (join t k)) r r' g next)
      | inr g ↦ in_loop_tail m c a t k r' (in_follows t k r r' g next)
    ]

-- the rest that is picked is one of the two
picked : (b : Bool) (h r : Code) (o : Option Code) → cond b (Some h) o ≡ Some r → (r ≡ h) ⊎ (o ≡ Some r)
picked true h r o e = inl (sym (same_Some h r e))
picked false h r o e = inr e

first_picked : (o p : Option Code) (r : Code) → first_of_two o p ≡ Some r → (o ≡ Some r) ⊎ (p ≡ Some r)
first_picked None p r e = inr e
first_picked (Some h) p r e = inl e

-- the rest from a label on is left from a statement on
pub member_from : (x : Label) (b k r : Code) → rest_from x b k ≡ Some r → Member r (rests b k)
member_from x done k r e = absurd (none-some r e)
member_from x (one m s t) k r e =
    elim (picked (has_label x m) (one m s (join t k)) r (rest_from x t k) e) [ inl same ↦ inl same | inr f ↦ inr (member_from x t k r f) ]
member_from x (choose m c a b t) k r e =
    elim (picked (has_label x m) (choose m c a b (join t k)) r
    (first_of_two (rest_from x a (join t k)) (first_of_two (rest_from x b (join t k)) (rest_from x t k))) e) [
      | inl same ↦ inl same
      | inr f ↦ inr (elim (first_picked (rest_from x a (join t k)) (first_of_two (rest_from x b (join t k)) (rest_from x t k)) r f) [
        | inl g ↦ member_left r (rests a (join t k)) (rests b (join t k) ++ rests t k) (member_from x a (join t k) r g)
        | inr g ↦
            member_right r (rests a (join t k)) (rests b (join t k) ++ rests t k)
            (elim (first_picked (rest_from x b (join t k)) (rest_from x t k) r g) [
              | inl h ↦ member_left r (rests b (join t k)) (rests t k) (member_from x b (join t k) r h)
              | inr h ↦ member_right r (rests b (join t k)) (rests t k) (member_from x t k r h)
            ])
      ])
    ]
member_from x (loop m c a t) k r e =
    elim (picked (has_label x m) (loop m c a (join t k)) r (first_of_two (rest_from x a (loop m c a (join t k))) (rest_from x t k)) e) [
      | inl same ↦ inl same
      | inr f ↦ inr (elim (first_picked (rest_from x a (loop m c a (join t k))) (rest_from x t k) r f) [
        | inl g ↦ member_left r (rests a (loop m c a (join t k))) (rests t k) (member_from x a (loop m c a (join t k)) r g)
        | inr g ↦ member_right r (rests a (loop m c a (join t k))) (rests t k) (member_from x t k r g)
      ])
    ]

-- what follows a rest of a body is a rest of it
pub rest_follows : (b r r' : Code) → IsRestOf b r → Follows r r' → IsRestOf b r'
rest_follows b r r' (inl e) next = absurd (subst (λ z. Follows z r') e next)
rest_follows b r r' (inr f) next = in_follows b done r r' f next
