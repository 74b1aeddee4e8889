-- What is shown of both values of a test, of which it is known then which one it has.
use Rattle.std.proofs.Common.{◌≡◌, Bool, true, false, refl}

pub at_test : (P : Bool → Type 0) (c : Bool) → (c ≡ true → P true) → (c ≡ false → P false) → P c
at_test P true f g = f refl
at_test P false f g = g refl
