-- Joined blocks, and rests from labels.
use Rattle.std.proofs.Common.{◌≡◌, Bool, true, false, cond, Option, Some, None, refl, sym, ◌∙◌, ap}
use Rattle.std.specs.Prelude.{option_map}
use Rattle.language.specs.Tree.{Block, Mark, RightSide, done, one, choose, loop}
use Rattle.language.specs.Value.{Place}
use Rattle.language.specs.Rest.{Label, Code, join, has_label, first_of_two, rest_from}

pub join_done : {V P L : Type 0} (a : Block V P L) → join a done ≡ a
join_done done = refl
join_done (one m s t) = ap (one m s) (join_done t)
join_done (choose m r a b t) = ap (choose m r a b) (join_done t)
join_done (loop m r a t) = ap (loop m r a) (join_done t)

pub join_join : (a b c : Code) → join (join a b) c ≡ join a (join b c)
join_join done b c = refl
join_join (one m s t) b c = ap (one m s) (join_join t b c)
join_join (choose m r x y t) b c = ap (choose m r x y) (join_join t b c)
join_join (loop m r x t) b c = ap (loop m r x) (join_join t b c)

pub first_none : {A : Type 0} (o : Option A) → first_of_two o None ≡ o
first_none None = refl
first_none (Some a) = refl

-- k comes after the rest, if there is one
abbrev behind : Code → Option Code → Option Code
behind k o = option_map (λ rest. join rest k) o

behind_twice : (o : Option Code) (b k : Code) → behind k (behind b o) ≡ behind (join b k) o
behind_twice None b k = refl
behind_twice (Some rest) b k = ap Some (join_join rest b k)

behind_first : (o p : Option Code) (k : Code) → behind k (first_of_two o p) ≡ first_of_two (behind k o) (behind k p)
behind_first None p k = refl
behind_first (Some rest) p k = refl

behind_cond : (b : Bool) (o p : Option Code) (k : Code) → behind k (cond b o p) ≡ cond b (behind k o) (behind k p)
behind_cond true o p k = refl
behind_cond false o p k = refl

-- what holds for a block with nothing after it holds with a block k2 after it
inner : (x : Label) (a : Code) → ((k : Code) → rest_from x a k ≡ behind k (rest_from x a done)) →
    (k2 k k' : Code) → k' ≡ join k2 k → rest_from x a k' ≡ behind k (rest_from x a k2)
inner x a all k2 k k' e =
    all k' ∙ ap (λ z. behind z (rest_from x a done)) e ∙ sym (behind_twice (rest_from x a done) k2 k) ∙ ap (behind k) (sym (all k2))

same_join : (t k : Code) → join t k ≡ join (join t done) k
same_join t k = ap (λ z. join z k) (sym (join_done t))

same_first : (o o' p p' : Option Code) → o ≡ o' → p ≡ p' → first_of_two o p ≡ first_of_two o' p'
same_first o o' p p' e f = ap (λ z. first_of_two z p) e ∙ ap (first_of_two o') f

same_cond : (b : Bool) (o o' p p' : Option Code) → o ≡ o' → p ≡ p' → cond b o p ≡ cond b o' p'
same_cond b o o' p p' e f = ap (λ z. cond b z p) e ∙ ap (cond b o') f

-- what comes after a block comes after each rest that it has
pub rest_behind : (x : Label) (b k : Code) → rest_from x b k ≡ behind k (rest_from x b done)
rest_behind x done k = refl
rest_behind x (one m s t) k =
    same_cond (has_label x m) (Some (one m s (join t k))) (Some (one m s (join (join t done) k))) (rest_from x t k)
    (behind k (rest_from x t done))
    (ap (λ z. Some (one m s z)) (same_join t k)) (rest_behind x t k)
    ∙ sym (behind_cond (has_label x m) (Some (one m s (join t done))) (rest_from x t done) k)
rest_behind x (choose m r a b t) k =
    same_cond (has_label x m) (Some (choose m r a b (join t k))) (Some (choose m r a b (join (join t done) k)))
    (first_of_two (rest_from x a (join t k)) (first_of_two (rest_from x b (join t k)) (rest_from x t k)))
    (behind k (first_of_two (rest_from x a (join t done)) (first_of_two (rest_from x b (join t done)) (rest_from x t done))))
    (ap (λ z. Some (choose m r a b z)) (same_join t k))
    (same_first (rest_from x a (join t k)) (behind k (rest_from x a (join t done)))
    (first_of_two (rest_from x b (join t k)) (rest_from x t k)) (behind k (first_of_two (rest_from x b (join t done)) (rest_from x t done)))
    (inner x a (rest_behind x a) (join t done) k (join t k) (same_join t k))
    (same_first (rest_from x b (join t k)) (behind k (rest_from x b (join t done))) (rest_from x t k) (behind k (rest_from x t done))
    (inner x b (rest_behind x b) (join t done) k (join t k) (same_join t k)) (rest_behind x t k)
    ∙ sym (behind_first (rest_from x b (join t done)) (rest_from x t done) k))
    ∙ sym (behind_first (rest_from x a (join t done)) (first_of_two (rest_from x b (join t done)) (rest_from x t done)) k))
    ∙ sym (behind_cond (has_label x m) (Some (choose m r a b (join t done)))
    (first_of_two (rest_from x a (join t done)) (first_of_two (rest_from x b (join t done)) (rest_from x t done))) k)
rest_behind x (loop m r a t) k =
    same_cond (has_label x m) (Some (loop m r a (join t k))) (Some (loop m r a (join (join t done) k)))
    (first_of_two (rest_from x a (loop m r a (join t k))) (rest_from x t k))
    (behind k (first_of_two (rest_from x a (loop m r a (join t done))) (rest_from x t done)))
    (ap (λ z. Some (loop m r a z)) (same_join t k))
    (same_first (rest_from x a (loop m r a (join t k))) (behind k (rest_from x a (loop m r a (join t done))))
    (rest_from x t k) (behind k (rest_from x t done))
    (inner x a (rest_behind x a) (loop m r a (join t done)) k (loop m r a (join t k)) (ap (loop m r a) (same_join t k)))
    (rest_behind x t k)
    ∙ sym (behind_first (rest_from x a (loop m r a (join t done))) (rest_from x t done) k))
    ∙ sym (behind_cond (has_label x m) (Some (loop m r a (join t done)))
    (first_of_two (rest_from x a (loop m r a (join t done))) (rest_from x t done)) k)

-- the rest from a label within a loop's body: what is left of the body, then the loop again
pub rest_in_loop : (x : Label) (m : Mark Label) (r : RightSide Place) (a t k rest : Code) → has_label x m ≡ false
    → rest_from x a done ≡ Some rest →
    rest_from x (loop m r a t) k ≡ Some (join rest (loop m r a (join t k)))
rest_in_loop x m r a t k rest other there =
    ap (λ b. cond b (Some (loop m r a (join t k))) (first_of_two (rest_from x a (loop m r a (join t k))) (rest_from x t k))) other
    ∙ ap (λ o. first_of_two o (rest_from x t k)) (rest_behind x a (loop m r a (join t k)) ∙ ap (behind (loop m r a (join t k))) there)
