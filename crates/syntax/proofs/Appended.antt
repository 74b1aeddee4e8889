-- Lists appended to one another.
use Rattle.std.proofs.Common.{◌≡◌, List, ◌++◌, append_assoc}

-- four lists, and one more after them
pub four : {A : Type 0} (a b c d e : List A) → (a ++ (b ++ (c ++ d))) ++ e ≡ a ++ (b ++ (c ++ (d ++ e)))
four a b c d e = simp append_assoc

pub five : {A : Type 0} (a b c d e f : List A) → (a ++ (b ++ (c ++ (d ++ e)))) ++ f ≡ a ++ (b ++ (c ++ (d ++ (e ++ f))))
five a b c d e f = simp append_assoc

pub six : {A : Type 0} (a b c d e f g : List A) → (a ++ (b ++ (c ++ (d ++ (e ++ f))))) ++ g ≡ a ++ (b ++ (c ++ (d ++ (e ++ (f ++ g)))))
six a b c d e f g = simp append_assoc
