-- What is written part by part.
use Rattle.std.proofs.Common.{◌≡◌, ◌∙◌, ◌++◌, List, ℕ, Result, Ok, Err, ap, append_assoc}
use Rattle.std.specs.Prelude.{OnOk}

-- first one thing, then another
pub on : (xs ys zs us vs : List ℕ) → ys ≡ xs ++ us → zs ≡ ys ++ vs → zs ≡ xs ++ (us ++ vs)
on xs ys zs us vs a b = b ∙ ap (λ l. l ++ vs) a ∙ append_assoc xs us vs

-- if the last step succeeds
pub at_last : {T E : Type 0} (r : Result T E) (xs ys zs us vs : List ℕ) → ys ≡ xs ++ us → OnOk r (zs ≡ ys ++ vs)
    → OnOk r (zs ≡ xs ++ (us ++ vs))
at_last (Ok _) xs ys zs us vs a b = on xs ys zs us vs a b
at_last (Err _) xs ys zs us vs a b = tt
