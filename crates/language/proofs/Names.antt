-- Names looked up in a list, and in two lists, one after the other.
use Rattle.std.proofs.Common.{◌≡◌, ℕ, suc, ◌+◌, ◌<◌, List, [], ◌∷◌, ◌++◌, Bool, true, false, cond, length, refl, ap, arith}
use Rattle.std.proofs.lemmas.Bool.{false≢true, true≢false}
use Rattle.language.specs.Tree.{Name}
use Rattle.language.specs.Rest.{same_text}
use Rattle.language.specs.Resolve.{Scope, number_of, is_declared, place_of}
use Rattle.language.specs.Value.{global, local}

pub declared_first : (t : List ℕ) (xs ys : List Name) → is_declared t xs ≡ true → is_declared t (xs ++ ys) ≡ true
declared_first t [] ys e = absurd (false≢true e)
declared_first t (n ∷ xs) ys e = by_case (declared_first t xs ys) (same_text t n.text) e
  where
    by_case : (is_declared t xs ≡ true → is_declared t (xs ++ ys) ≡ true) → (b : Bool) → cond b true (is_declared t xs) ≡ true
        → cond b true (is_declared t (xs ++ ys)) ≡ true
    by_case ih true e = refl
    by_case ih false e = ih e

pub declared_second : (t : List ℕ) (xs ys : List Name) → is_declared t xs ≡ false → is_declared t (xs ++ ys) ≡ is_declared t ys
declared_second t [] ys e = refl
declared_second t (n ∷ xs) ys e = by_case (declared_second t xs ys) (same_text t n.text) e
  where
    by_case : (is_declared t xs ≡ false → is_declared t (xs ++ ys) ≡ is_declared t ys) → (b : Bool)
        → cond b true (is_declared t xs) ≡ false → cond b true (is_declared t (xs ++ ys)) ≡ is_declared t ys
    by_case ih true e = absurd (true≢false e)
    by_case ih false e = ih e

pub number_first : (t : List ℕ) (xs ys : List Name) → is_declared t xs ≡ true → number_of t (xs ++ ys) ≡ number_of t xs
number_first t [] ys e = absurd (false≢true e)
number_first t (n ∷ xs) ys e = by_case (number_first t xs ys) (same_text t n.text) e
  where
    by_case : (is_declared t xs ≡ true → number_of t (xs ++ ys) ≡ number_of t xs) → (b : Bool) → cond b true (is_declared t xs) ≡ true
        → cond b 0 (suc (number_of t (xs ++ ys))) ≡ cond b 0 (suc (number_of t xs))
    by_case ih true e = refl
    by_case ih false e = ap suc (ih e)

pub number_second : (t : List ℕ) (xs ys : List Name) → is_declared t xs ≡ false → number_of t (xs ++ ys) ≡ length xs + number_of t ys
number_second t [] ys e = omega arith
number_second t (n ∷ xs) ys e = by_case (number_second t xs ys) (same_text t n.text) e
  where
    by_case : (is_declared t xs ≡ false → number_of t (xs ++ ys) ≡ length xs + number_of t ys) → (b : Bool)
        → cond b true (is_declared t xs) ≡ false → cond b 0 (suc (number_of t (xs ++ ys))) ≡ length (n ∷ xs) + number_of t ys
    by_case ih true e = absurd (true≢false e)
    by_case ih false e = let more = ih e in omega (arith, more)

pub number_less : (x : List ℕ) (xs : List Name) → is_declared x xs ≡ true → number_of x xs < length xs
number_less x [] h = cc
number_less x (y ∷ xs) h = go (same_text x y.text) h (λ k. number_less x xs k)
  where
    go : (c : Bool) → cond c true (is_declared x xs) ≡ true → (is_declared x xs ≡ true → number_of x xs < length xs)
        → cond c 0 (suc (number_of x xs)) < suc (length xs)
    go true k rec = omega arith
    go false k rec = let z : number_of x xs < length xs = rec k in omega arith

pub place_declared : (s : Scope) (x : Name) → is_declared x.text s.locals ≡ true → place_of s x ≡ local (number_of x.text s.locals)
place_declared s x e = ap (λ b. cond b (local (number_of x.text s.locals)) (global (number_of x.text s.globals))) e

pub place_other : (s : Scope) (x : Name) → is_declared x.text s.locals ≡ false → place_of s x ≡ global (number_of x.text s.globals)
place_other s x e = ap (λ b. cond b (local (number_of x.text s.locals)) (global (number_of x.text s.globals))) e
