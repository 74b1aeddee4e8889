-- Where a procedure is looked up by its name, and what is required of it if it exists.
use Rattle.std.specs.Prelude.{List, Option, Some, None, map}
use Rattle.language.specs.Tree.{Name, Procedure}

-- the names of procedures
abbrev pub names : List Procedure → List Name
names ps = map (λ (p : Procedure). p.name) ps

-- the procedure is there, and it has the property
abbrev pub IsThere : {X : Type 0} → Option X → (X → Type 0) → Type 0
IsThere None P = ⊥
IsThere (Some p) P = P p
