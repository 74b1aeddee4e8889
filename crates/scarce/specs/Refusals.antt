-- Which allocations are refused. They are numbered from 1, in the order in which they are requested.
use Rattle.std.specs.Prelude.{ℕ, ◌≤◌, ◌<◌}
use Rattle.scarce.specs.declared.count.Count.{Count}
use Rattle.scarce.specs.declared.Scarce.{Scarce}

-- The allocation of this number is refused.
abbrev pub IsRefused : Count → ℕ → Type 0
IsRefused c number = (c.first ≤ number) × (number ≤ c.last)

-- One of the first `asked` allocations is refused.
abbrev pub HasRefused : Count → ℕ → Type 0
HasRefused c asked = (number : ℕ) × ((0 < number) × (number ≤ asked) × IsRefused c number)

-- This allocator refuses the allocation with this number.
abbrev pub RefusesAllocation : {B : Type 0} → Scarce B → ℕ → Type 0
RefusesAllocation scarce number = IsRefused scarce.count number

-- The allocator to which it passes on what it does not refuse.
abbrev pub inner_of : {B : Type 0} → Scarce B → B
inner_of scarce = scarce.inner
