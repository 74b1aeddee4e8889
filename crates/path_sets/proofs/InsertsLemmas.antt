-- What is in a list with one more item, and how such lists are put together.
use Rattle.std.proofs.Common.{◌≡◌, ◌+◌, if◌then◌else◌, Bool, true, false, List, [], ◌∷◌, ◌++◌, ◌⊎◌, map, length}
use Rattle.std.proofs.Common.{ℕ, ◌<◌, ◌^◌, Fits, w64, inl, inr, refl, sym, ap, subst, arith, Result, Ok, Err, OnErr}
use Rattle.language.specs.Lists.{Member}
use Rattle.path_sets.specs.Inserts.{Inserts, here, there}

-- what is in the longer list is x, or was there
pub is_new_or_old : {A : Type 0} (x t : A) (xs ys : List A) → Inserts x xs ys → Member t ys → (t ≡ x) ⊎ Member t xs
is_new_or_old x t xs ys (here _) (inl e) = inl e
is_new_or_old x t xs ys (here _) (inr m) = inr m
is_new_or_old x t xs ys (there y _ _ i) (inl e) = inr (inl e)
is_new_or_old x t xs ys (there y us vs i) (inr m) =
    elim (is_new_or_old x t us vs i m) [ inl e ↦ inl e | inr n ↦ inr (inr n) ]

-- x is in the longer list
pub is_in : {A : Type 0} (x : A) (xs ys : List A) → Inserts x xs ys → Member x ys
is_in x xs ys (here _) = inl refl
is_in x xs ys (there y us vs i) = inr (is_in x us vs i)

-- and so is what was there
pub stays_in : {A : Type 0} (x t : A) (xs ys : List A) → Inserts x xs ys → Member t xs → Member t ys
stays_in x t xs ys (here _) m = inr m
stays_in x t xs ys (there y _ _ i) (inl e) = inl e
stays_in x t xs ys (there y us vs i) (inr m) = inr (stays_in x t us vs i m)

-- the list is longer by one
pub one_longer : {A : Type 0} (x : A) (xs ys : List A) → Inserts x xs ys → length ys ≡ length xs + 1
one_longer x xs ys (here us) = omega arith
one_longer x xs ys (there y us vs i) = let e = one_longer x us vs i in omega (arith, e)

-- the same after other items
pub behind : {A : Type 0} (x : A) (zs xs ys : List A) → Inserts x xs ys → Inserts x (zs ++ xs) (zs ++ ys)
behind x [] xs ys i = i
behind x (z ∷ zs) xs ys i = there z (zs ++ xs) (zs ++ ys) (behind x zs xs ys i)

-- the same before other items
pub before : {A : Type 0} (x : A) (xs ys zs : List A) → Inserts x xs ys → Inserts x (xs ++ zs) (ys ++ zs)
before x xs ys zs (here us) = here (us ++ zs)
before x xs ys zs (there y us vs i) = there y (us ++ zs) (vs ++ zs) (before x us vs zs i)

-- the same for each item's image
pub mapped : {A B : Type 0} (f : A → B) (x : A) (xs ys : List A) → Inserts x xs ys → Inserts (f x) (map f xs) (map f ys)
mapped f x xs ys (here us) = here (map f us)
mapped f x xs ys (there y us vs i) = there (f y) (map f us) (map f vs) (mapped f x us vs i)

-- by how much a list is longer, as it is said with a test of whether something was put in
pub one_more_if : {A : Type 0} (xs ys : List A) (added : Bool) → added ≡ true → length ys ≡ length xs + 1
    → length ys ≡ length xs + (if added then 1 else 0)
one_more_if xs ys added is more = subst (λ (b : Bool). length ys ≡ length xs + (if b then 1 else 0)) (sym is) more

pub none_more_if : {A : Type 0} (xs ys : List A) (added : Bool) → added ≡ false → ys ≡ xs
    → length ys ≡ length xs + (if added then 1 else 0)
none_more_if xs ys added is same =
    let e = ap length same in
    subst (λ (b : Bool). length ys ≡ length xs + (if b then 1 else 0)) (sym is) (omega (arith, e))

-- a list that is not long can be counted with one more
pub count_fits : {A : Type 0} (count : ℕ) (old new : List A) → count ≡ length new → new ≡ old → length old < 2 ^ 63 → Fits w64 (count + 1)
count_fits count old new is same few =
    let e = ap length same in record {
      fits = omega (arith, is, e, few);
    }

-- what holds before holds after an error
pub at_error : {T E P : Type 0} (r : Result T E) → P → OnErr r P
at_error (Ok _) p = tt
at_error (Err _) p = p
