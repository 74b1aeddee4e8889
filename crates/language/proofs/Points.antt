-- The points of a numbered block, and the bodies of a numbered program.
use Rattle.std.proofs.Common.{◌≡◌, ℕ, zero, suc, ◌+◌, List, map, slice_get, ◌∷◌, ◌++◌, refl, ◌∙◌, ap, ap₂, arith}
use Rattle.language.specs.Tree.{done, one, choose, loop}
use Rattle.language.specs.Rest.{Code}
use Rattle.language.specs.Step.{Routine, body_of}
use Rattle.language.specs.Sequential.{statements, numbered, points, numbers, numbered_routine}

numbers-append : (k a b j c : ℕ) → j ≡ k + a → c ≡ a + b → numbers k a ++ numbers j b ≡ numbers k c
numbers-append k zero b j c e e' = let x : j ≡ k = omega arith in let y : b ≡ c = omega arith in ap₂ numbers x y
numbers-append k (suc a) b j zero e e' = absurd (omega arith)
numbers-append k (suc a) b j (suc c) e e' = ap (λ z. k ∷ z) (numbers-append (suc k) a b j c (omega arith) (omega arith))

pub points_numbered : (n : ℕ) (b : Code) → points (numbered n b) ≡ numbers n (statements b)
points_numbered n done = refl
points_numbered n (one m s t) = ap (λ z. n ∷ z) (points_numbered (suc n) t)
points_numbered n (choose m r a b t) =
    let nb : ℕ = suc n + statements a in
    let nt : ℕ = suc n + (statements a + statements b) in
    ap (λ z. n ∷ z)
    (ap₂ (λ x y. x ++ y) (points_numbered (suc n) a)
    (ap₂ (λ x y. x ++ y) (points_numbered nb b) (points_numbered nt t)
    ∙ numbers-append nb (statements b) (statements t) nt (statements b + statements t) (omega arith) refl)
    ∙ numbers-append (suc n) (statements a) (statements b + statements t) nb (statements a + (statements b + statements t)) refl refl)
points_numbered n (loop m r a t) =
    let nt : ℕ = suc n + statements a in
    ap (λ z. n ∷ z)
    (ap₂ (λ x y. x ++ y) (points_numbered (suc n) a) (points_numbered nt t)
    ∙ numbers-append (suc n) (statements a) (statements t) nt (statements a + statements t) refl refl)

pub bodies_numbered : (rs : List Routine) (q : ℕ) → body_of (slice_get (map numbered_routine rs) q) ≡ numbered 1 (body_of (slice_get rs q))
bodies_numbered (r ∷ rs) (suc q) = bodies_numbered rs q
bodies_numbered _ _ = refl
