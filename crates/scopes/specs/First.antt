-- Which of several faults is returned.
use Rattle.std.specs.Prelude.{Option, Some, None}
use Rattle.checked.specs.declared.fault.ScopeFault.{ScopeFault}
use Rattle.scopes.specs.Find.{lesser_by}
use Rattle.checked.specs.Checked.{offset, ComesFirst}

-- nothing, if no fault has the property; else one that has it, before all that do
abbrev pub IsFirst : (ScopeFault → Type 0) → Option ScopeFault → Type 0
IsFirst S None = (f : ScopeFault) → S f → ⊥
IsFirst S (Some fault) = S fault × ((g : ScopeFault) → S g → ComesFirst fault g)

-- the answer is the first fault with the property, or nothing if no fault has it
pub record FindsFirst (S : ScopeFault → Type 0) (answer : Option ScopeFault) : Type 0 where
  pub first : IsFirst S answer

-- of two optional faults, the one with the lesser offset, and if the offsets are equal the first
abbrev pub sooner_of : Option ScopeFault → Option ScopeFault → Option ScopeFault
sooner_of a b = lesser_by offset a b
