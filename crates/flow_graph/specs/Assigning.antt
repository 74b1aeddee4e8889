-- What a simultaneous assignment means to its compiled form.
use Rattle.std.specs.Prelude.{◌≡◌, ◌↔◌, ◌≤◌, ℕ, Bool, List, [], ◌∷◌, length, map}
use Rattle.language.specs.Tree.{Name, Expression, RightSide, value}
use Rattle.language.specs.Value.{AreValues, written_globals, written_locals}
use Rattle.language.specs.Resolve.{Scope, place_of, resolve_side}
use Rattle.language.specs.Sequential.{Valuation}
use Rattle.flow_graph.specs.Flows.{code, assigned}
use Rattle.flow_graph.specs.Formulas.{SaysSide}
use Rattle.flow_graph.specs.declared.assignment.Assignment.{Assignment}
use Rattle.flow_graph.specs.declared.assignment.Write.{Write}

-- the valuation after these values are written to the targets, one after the other
abbrev pub after_values : Scope → List Name → List Bool → Valuation → Valuation
after_values scope xs vs valuation = record {
  globals = written_globals (map (place_of scope) xs) vs valuation.globals;
  places = written_locals (map (place_of scope) xs) vs valuation.places;
}

-- the right sides have values in the valuation that, written to the targets, make the one with this number
abbrev pub AssignedTo : Scope → List Name → List (RightSide Name) → Valuation → ℕ → Type 0
AssignedTo scope xs rs valuation number =
    (vs : List Bool) × AreValues valuation.globals valuation.places (map (resolve_side scope) rs) vs
    × (number ≡ code (after_values scope xs vs valuation))

-- a value for each global of the scope, and for each formal and local, perhaps for a result after them
abbrev pub HasPlaces : Scope → Valuation → Type 0
HasPlaces scope valuation = (length valuation.globals ≡ length scope.globals) × (length scope.locals ≤ length valuation.places)

-- the next valuation of number i, after this one, has this number
abbrev pub NextBy : {Alloc : Type 0} → Assignment Alloc → ℕ → Valuation → ℕ → Type 0
NextBy assignment i valuation number = (i ≤ assignment.last) × (assigned assignment (code valuation) i ≡ number)

-- The numbers up to the last give each next valuation of the simultaneous assignment, no other, and each once.
pub record Assigns {Alloc : Type 0} (assignment : Assignment Alloc) (scope : Scope) (xs : List Name) (rs : List (RightSide Name)) :
    Type 0 where
  pub leads : (before : Valuation) (number : ℕ) → HasPlaces scope before
      → ((choice : ℕ) × NextBy assignment choice before number) ↔ AssignedTo scope xs rs before number
  pub once : (before : Valuation) (choice other_choice number : ℕ) → HasPlaces scope before → NextBy assignment choice before number
      → NextBy assignment other_choice before number → choice ≡ other_choice

-- the assignment makes one write, of the expression to the bits of the mask
abbrev pub WritesOne : {Alloc : Type 0} → Assignment Alloc → ℕ → Scope → Expression Name → Type 0
WritesOne {Alloc} assignment mask scope expression =
    (write : Write Alloc) × (assignment.writes.items ≡ write ∷ []) × (assignment.last ≡ 0) × (write.mask ≡ mask)
    × SaysSide write.side scope (value expression)
