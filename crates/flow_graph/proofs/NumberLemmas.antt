-- Valuations and their numbers.
use Rattle.std.proofs.Common.{◌≡◌, ℕ, zero, suc, ◌+◌, ◌-◌, ◌*◌, ◌<◌, ◌%◌, ◌^◌, Bool, true, false, List, []}
use Rattle.std.proofs.Common.{◌∷◌, ◌++◌, length, refl, sym, ◌∙◌, ap, ap₂, subst, arith, pow-suc, length-append}
use Rattle.std.proofs.Math.Nat.{mul_assoc, mod-eq_of_lt}
use Rattle.std.proofs.lemmas.Nat.{mod_low}
use Rattle.language.specs.Step.{zeros}
use Rattle.language.specs.Sequential.{Valuation}
use Rattle.flow_graph.specs.Bits.{coded}
use Rattle.flow_graph.specs.Flows.{code}
use Rattle.flow_graph.proofs.Stacks.{coded_small}

-- a number determines its values, if it is known how many there are
pub coded_tells : (xs ys : List Bool) → length xs ≡ length ys → coded xs ≡ coded ys → xs ≡ ys
coded_tells [] [] h e = refl
coded_tells (true ∷ xs) (true ∷ ys) h e = ap (λ l. true ∷ l) (coded_tells xs ys (omega (arith, h)) (omega (arith, e)))
coded_tells (true ∷ xs) (false ∷ ys) h e = absurd (omega (arith, e))
coded_tells (false ∷ xs) (true ∷ ys) h e = absurd (omega (arith, e))
coded_tells (false ∷ xs) (false ∷ ys) h e = ap (λ l. false ∷ l) (coded_tells xs ys (omega (arith, h)) (omega (arith, e)))
coded_tells _ _ h e = absurd (omega (arith, h))

-- the values of one list count from where those of the other end
pub coded_append : (xs ys : List Bool) → coded (xs ++ ys) ≡ coded ys * 2 ^ length xs + coded xs
coded_append [] ys = omega arith
coded_append (x ∷ xs) ys =
    let more = coded_append xs ys in
    let twice : coded ys * 2 ^ suc (length xs) ≡ coded ys * 2 ^ length xs * 2 = ap (λ n. coded ys * n) (pow-suc 2 (length xs))
    ∙ sym (mul_assoc (coded ys) (2 ^ length xs) 2) in
    omega (arith, more, twice)

-- two lists of as many values as two others, one after the other, are those two
split_front : (xs xs' ys ys' : List Bool) → length xs ≡ length xs' → xs ++ ys ≡ xs' ++ ys' → xs ≡ xs'
split_front [] [] ys ys' h e = refl
split_front (x ∷ xs) (x' ∷ xs') ys ys' h e =
    ap₂ (λ y l. y ∷ l) (ap (λ l. elim l as (λ z. Bool) [ [] ↦ x | y ∷ more ↦ y ]) e)
    (split_front xs xs' ys ys' (omega (arith, h)) (ap (λ l. elim l as (λ z. List Bool) [ [] ↦ [] | y ∷ more ↦ more ]) e))
split_front _ _ ys ys' h e = absurd (omega (arith, h))

split_back : (xs xs' ys ys' : List Bool) → length xs ≡ length xs' → xs ++ ys ≡ xs' ++ ys' → ys ≡ ys'
split_back [] [] ys ys' h e = e
split_back (x ∷ xs) (x' ∷ xs') ys ys' h e =
    split_back xs xs' ys ys' (omega (arith, h)) (ap (λ l. elim l as (λ z. List Bool) [ [] ↦ [] | y ∷ more ↦ more ]) e)
split_back _ _ ys ys' h e = absurd (omega (arith, h))

-- a number determines its valuation, if it is known how many globals and places there are
pub code_tells : (v w : Valuation) → length v.globals ≡ length w.globals → length v.places ≡ length w.places → code v ≡ code w → v ≡ w
code_tells v w globals places e =
    let whole : v.globals ++ v.places ≡ w.globals ++ w.places = coded_tells (v.globals ++ v.places) (w.globals ++ w.places)
    (omega (arith, length-append v.globals v.places, length-append w.globals w.places, globals, places)) e in
    let front = split_front v.globals w.globals v.places w.places globals whole in
    let back = split_back v.globals w.globals v.places w.places globals whole in
    λ i. record { globals = front i; places = back i }

-- a valuation's number is below the power of 2 of its width
pub code_small : (v : Valuation) → code v < 2 ^ (length v.globals + length v.places)
code_small v = subst (λ n. code v < 2 ^ n) (length-append v.globals v.places) (coded_small (v.globals ++ v.places))

-- the number of a list of values is below the power of 2 with its length
coded_below : (g : ℕ) (bs : List Bool) → length bs ≡ g → coded bs < 2 ^ g
coded_below g bs e = subst (λ n. coded bs < 2 ^ n) e (coded_small bs)

code_split : (g : ℕ) (v : Valuation) → length v.globals ≡ g → code v ≡ coded v.places * 2 ^ g + coded v.globals
code_split g v e = coded_append v.globals v.places ∙ ap (λ n. coded v.places * 2 ^ n + coded v.globals) e

-- the globals of a valuation's number are those of the valuation
pub left_coded : (g : ℕ) (v : Valuation) → length v.globals ≡ g → code v % 2 ^ g ≡ coded v.globals
left_coded g v e = ap (λ n. n % 2 ^ g) (code_split g v e) ∙ mod_low (coded v.places) g (coded v.globals) (coded_below g v.globals e)

-- the valuation after a return has the globals that are left, and the caller's places
pub resumed_coded : (g : ℕ) (v : Valuation) (b : List Bool) → length v.globals ≡ g → length b ≡ g
    → coded b % 2 ^ g + (code v - code v % 2 ^ g) ≡ coded (b ++ v.places)
resumed_coded g v b e f =
    let after : coded b % 2 ^ g ≡ coded b = mod-eq_of_lt (coded_below g b f) in
    let low : code v % 2 ^ g ≡ coded v.globals = left_coded g v e in
    let all = code_split g v e in
    let whole : coded (b ++ v.places) ≡ coded v.places * 2 ^ g + coded b = coded_append b v.places
    ∙ ap (λ n. coded v.places * 2 ^ n + coded b) f in
    omega (arith, after, low, all, whole)

-- values of 0 are the number 0
pub coded_zeros : (n m : ℕ) → coded (zeros n ++ zeros m) ≡ 0
coded_zeros zero zero = refl
coded_zeros zero (suc m) = omega (arith, coded_zeros zero m)
coded_zeros (suc n) m = omega (arith, coded_zeros n m)
