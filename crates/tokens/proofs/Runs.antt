-- Longest runs: what passes a test, up to what does not.
use Rattle.std.proofs.Common.{◌≡◌, ℕ, ◌+◌, Bool, true, false, cond, List, [], ◌∷◌, ◌++◌, length, take, drop, refl, sym, ap, subst, ◌∙◌}
use Rattle.std.proofs.Common.{arith}
use Rattle.std.proofs.Math.Numerals.{one-add}
use Rattle.std.proofs.Math.Seq.{take-append_seam}
use Rattle.std.specs.List.{AllByRecursion, prefix_len, slice_range}
use Rattle.std.proofs.lemmas.Grind.{common_steps}
use Rattle.tokens.specs.Cuts.{Stops}

-- Of what passes and stops there is one way to cut it.
pub one_run : (test : ℕ → Bool) (v w r s : List ℕ) → AllByRecursion (λ b. test b ≡ true) v → AllByRecursion (λ b. test b ≡ true) w
    → Stops test r → Stops test s → v ++ r ≡ w ++ s → v ≡ w
one_run test [] [] r s pass also stop end e = refl
one_run test [] (b ∷ w) r s pass also stop end e = let fails : test b ≡ false = subst (Stops test) e stop in
    let holds : test b ≡ true = also.0 in cc
one_run test (b ∷ v) [] r s pass also stop end e = let fails : test b ≡ false = subst (Stops test) (sym e) end in
    let holds : test b ≡ true = pass.0 in cc
one_run test (b ∷ v) (c ∷ w) r s pass also stop end e =
    let rests : v ++ r ≡ w ++ s = cc in
    let same : v ≡ w = one_run test v w r s pass.1 also.1 stop end rests in
    cc

-- Two fronts of one length are one.
pub one_front : (v w r s : List ℕ) → length v ≡ length w → v ++ r ≡ w ++ s → v ≡ w
one_front v w r s long e =
    sym (take-append_seam v r) ∙ ap (λ n. take n (v ++ r)) long ∙ ap (take (length w)) e ∙ take-append_seam w s

-- The longest run of what passes a test passes it.
pub run_passes : (test : ℕ → Bool) (bs : List ℕ) → AllByRecursion (λ b. test b ≡ true) (take (prefix_len test bs) bs)
run_passes test [] = tt
run_passes test (b ∷ bs) = by_test (test b) refl (run_passes test bs)
  where
    by_test : (t : Bool) → test b ≡ t → AllByRecursion (λ b. test b ≡ true) (take (prefix_len test bs) bs)
        → AllByRecursion (λ b. test b ≡ true) (take (cond t (1 + prefix_len test bs) 0) (b ∷ bs))
    by_test true e rest = rw one-add (e, rest)
    by_test false e rest = tt

-- What follows the longest run does not.
pub run_stops : (test : ℕ → Bool) (bs : List ℕ) → Stops test (drop (prefix_len test bs) bs)
run_stops test [] = tt
run_stops test (b ∷ bs) = by_test (test b) refl (run_stops test bs)
  where
    by_test : (t : Bool) → test b ≡ t → Stops test (drop (prefix_len test bs) bs)
        → Stops test (drop (cond t (1 + prefix_len test bs) 0) (b ∷ bs))
    by_test true e rest = rw one-add rest
    by_test false e rest = e

-- A range from the start is a front.
pub from_start : (bs : List ℕ) (n : ℕ) → slice_range bs 0 n ≡ take n bs
from_start bs n = grind (arith, common_steps)
