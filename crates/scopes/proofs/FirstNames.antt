-- The first of some names, and the names of procedures.
use Rattle.std.proofs.Common.{◌≡◌, ℕ, List, [], ◌∷◌, map, Some, None, refl, ap}
use Rattle.std.specs.List.{slice_get}
use Rattle.trees.specs.declared.tree.Name.{Name}
use Rattle.trees.specs.declared.tree.Proc.{Proc}
use Rattle.trees.specs.Trees.{name_of, names_of, procs_of}
use Rattle.resolved.specs.There.{names}
use Rattle.checked.specs.Faults.{first_at}

pub first_there : {A : Type 0} (m : ℕ) (names : List (Name A)) (x : Name A) → Some x ≡ slice_get names 0
    → x.at ≡ first_at m (names_of names)
first_there m [] x e = cc
first_there m (y ∷ names) x e = cc

pub none_there : {A : Type 0} (m : ℕ) (names : List (Name A)) → None ≡ slice_get names 0
    → m ≡ first_at m (names_of names)
none_there m [] e = refl
none_there m (y ∷ names) e = cc

-- the names of procedures, one by one
pub names_seen : {A : Type 0} (procs : List (Proc A)) → names (procs_of procs) ≡ map (λ p. name_of p.name) procs
names_seen [] = refl
names_seen (p ∷ procs) = ap (λ ns. name_of p.name ∷ ns) (names_seen procs)
