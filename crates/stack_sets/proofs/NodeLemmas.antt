-- Heads and pairs that compare as equal, and nodes that are added.
use Rattle.std.proofs.Common.{◌≡◌, ◌++◌, Bool, true, ◌&&◌, nat_eq, List, [], ◌∷◌, false, Some, length, slice_get, refl, sym, ap₂}
use Rattle.std.proofs.Common.{true≢false}
use Rattle.std.specs.Bool.{beq}
use Rattle.std.specs.Cmp.Lexicographic.{pointwise}
use Rattle.std.proofs.lemmas.Map.Views.{exact_unsigned_eq}
use Rattle.std.proofs.lemmas.Bool.{and_parts}
use Rattle.turns.specs.declared.numbered_frame.NumberedFrame.{NumberedFrame}
use Rattle.stack_sets.specs.declared.inclusions.Pair.{Pair}
use Rattle.stack_sets.specs.declared.node.Head.{Head}

-- whether two heads are the same
abbrev pub frame_eq : NumberedFrame → NumberedFrame → Bool
frame_eq x y = nat_eq x.procedure y.procedure && (nat_eq x.point y.point && nat_eq x.places y.places)

abbrev pub head_eq : Head → Head → Bool
head_eq x y = frame_eq x.frame y.frame && nat_eq x.below y.below

-- flags that compare as equal are the same
pub same_flag : (a b : Bool) → beq a b ≡ true → a ≡ b
same_flag true true h = refl
same_flag true false h = absurd (true≢false (sym h))
same_flag false true h = absurd (true≢false (sym h))
same_flag false false h = refl

pub same_frame : (x y : NumberedFrame) → frame_eq x y ≡ true → x ≡ y
same_frame x y h =
    let (a, rest) = and_parts (nat_eq x.procedure y.procedure) (nat_eq x.point y.point && nat_eq x.places y.places) h in
    let (b, c) = and_parts (nat_eq x.point y.point) (nat_eq x.places y.places) rest in
    let a' = exact_unsigned_eq x.procedure y.procedure a in
    let b' = exact_unsigned_eq x.point y.point b in
    let c' = exact_unsigned_eq x.places y.places c in
    λ i. record { procedure = a' i; point = b' i; places = c' i }

pub same_head : (x y : Head) → head_eq x y ≡ true → x ≡ y
same_head x y h =
    let (a, b) = and_parts (frame_eq x.frame y.frame) (nat_eq x.below y.below) h in
    let a' = same_frame x.frame y.frame a in
    let b' = exact_unsigned_eq x.below y.below b in
    λ i. record { frame = a' i; below = b' i }

-- whether two pairs are the same
abbrev pub pair_eq : Pair → Pair → Bool
pair_eq x y = nat_eq x.under y.under && nat_eq x.over y.over

pub same_pair : (x y : Pair) → pair_eq x y ≡ true → x ≡ y
same_pair x y h =
    let (a, b) = and_parts (nat_eq x.under y.under) (nat_eq x.over y.over) h in
    let a' = exact_unsigned_eq x.under y.under a in
    let b' = exact_unsigned_eq x.over y.over b in
    λ i. record { under = a' i; over = b' i }

-- what is added last is behind the others
pub last_is : {A : Type 0} (xs : List A) (x : A) → slice_get (xs ++ x ∷ []) (length xs) ≡ Some x
last_is [] x = refl
last_is (y ∷ xs) x = last_is xs x

pub same_heads : (xs ys : List Head) → pointwise head_eq xs ys ≡ true → xs ≡ ys
same_heads [] [] h = refl
same_heads [] (y ∷ ys) h = absurd (true≢false (sym h))
same_heads (x ∷ xs) [] h = absurd (true≢false (sym h))
same_heads (x ∷ xs) (y ∷ ys) h =
    let (first, rest) = and_parts (head_eq x y) (pointwise head_eq xs ys) h in
    ap₂ (λ z zs. z ∷ zs) (same_head x y first) (same_heads xs ys rest)
