-- Places that compare as equal, and the edges of a key.
use Rattle.std.proofs.Common.{◌≡◌, ℕ, ◌+◌, ◌*◌, ◌<◌, Bool, true, false, ◌&&◌, nat_eq, refl, sym}
use Rattle.std.proofs.Common.{ap, ap₂, subst, true≢false, eq-eqb, arith}
use Rattle.std.specs.Bool.{beq}
use Rattle.std.proofs.lemmas.Map.Views.{exact_unsigned_eq}
use Rattle.std.proofs.lemmas.Bool.{and_parts}
use Rattle.language.specs.Lists.{Member}
use Rattle.language.proofs.Members.{map_member}
use Rattle.path_sets.specs.declared.points.mask_key.MaskKey.{MaskKey}
use Rattle.path_sets.specs.Edges.{edge_at, edges_in, mask_key_eq}
use Rattle.path_sets.specs.Masks.{bits_below}
use Rattle.path_sets.specs.Triples.{Triple}
use Rattle.path_sets.proofs.MaskLemmas.{bits_known}

-- values that compare as equal are the same
pub same_flag : (a b : Bool) → beq a b ≡ true → a ≡ b
same_flag true true h = refl
same_flag true false h = absurd (true≢false (sym h))
same_flag false true h = absurd (true≢false (sym h))
same_flag false false h = refl

-- two or three numbers that compare as equal, each with its own, are the same, and the same compare as equal
pub same_two : (a a' b b' : ℕ) → (nat_eq a a' && nat_eq b b') ≡ true → (a ≡ a') × (b ≡ b')
same_two a a' b b' h =
    let (first, second) = and_parts (nat_eq a a') (nat_eq b b') h in
    (exact_unsigned_eq a a' first, exact_unsigned_eq b b' second)

pub same_three : (a a' b b' c c' : ℕ) → (nat_eq a a' && (nat_eq b b' && nat_eq c c')) ≡ true
    → (a ≡ a') × (b ≡ b') × (c ≡ c')
same_three a a' b b' c c' h =
    let (first, rest) = and_parts (nat_eq a a') (nat_eq b b' && nat_eq c c') h in
    let (second, third) = same_two b b' c c' rest in
    (exact_unsigned_eq a a' first, second, third)

pub two_self : (a b : ℕ) → (nat_eq a a && nat_eq b b) ≡ true
two_self a b = ap₂ ◌&&◌ (eq-eqb a a refl) (eq-eqb b b refl)

pub three_self : (a b c : ℕ) → (nat_eq a a && (nat_eq b b && nat_eq c c)) ≡ true
three_self a b c = ap₂ ◌&&◌ (eq-eqb a a refl) (two_self b c)

-- values that are made of such numbers are the same
pub same_by_two : {K : Type 0} (make : ℕ → ℕ → K) (a b a' b' : ℕ) → (nat_eq a a' && nat_eq b b') ≡ true → make a b ≡ make a' b'
same_by_two make a b a' b' h = let (first, second) = same_two a a' b b' h in ap₂ make first second

pub same_by_three : {K : Type 0} (make : ℕ → ℕ → ℕ → K) (a b c a' b' c' : ℕ) → (nat_eq a a' && (nat_eq b b' && nat_eq c c')) ≡ true
    → make a b c ≡ make a' b' c'
same_by_three make a b c a' b' c' h =
    let (first, second, third) = same_three a a' b b' c c' h in λ j. make (first j) (second j) (third j)

-- masks that compare as equal are the same
pub same_mask_key : (x y : MaskKey) → mask_key_eq x y ≡ true → x ≡ y
same_mask_key x y =
    same_by_three (λ e v b. record { entry = e; values = v; block = b }) x.entry x.values x.block y.entry y.values y.block

-- the same key compares as equal
pub eq_mask_key : (x y : MaskKey) → x ≡ y → mask_key_eq x y ≡ true
eq_mask_key x y is = subst (λ z. mask_key_eq x z ≡ true) is (three_self x.entry x.values x.block)

-- an edge among those of a mask is of its key, and its bit is 1
pub own_edge : (p q : MaskKey) (b m : ℕ) → b < 64 → Member (edge_at p b) (edges_in q m) →
    (p ≡ q) × Member b (bits_below m 64)
own_edge p q b m small h =
    let (c, there, same) = map_member (edge_at q) (bits_below m 64) (edge_at p b) h in
    let small' : c < 64 = (bits_known m c 64 there).0 in
    let point : 64 * p.block + b ≡ 64 * q.block + c = ap (λ (t : Triple). t.point) same in
    let block : p.block ≡ q.block = omega (arith, point, small, small') in
    let bit : c ≡ b = omega (arith, point, small, small') in (
      λ j. record { entry = (same j).entry; values = (same j).values; block = block j },
      subst (λ x. Member x (bits_below m 64)) bit there,
    )
