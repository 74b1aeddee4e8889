-- What the writes of compiled assignments do.
use Rattle.std.specs.Prelude.{ℕ, ◌+◌, ◌/◌, ◌==◌, cond, Bool, true, false, Option, Some, None, List, [], ◌∷◌, map}
use Rattle.std.specs.Int.RustNames.{bit_or, bit_xor}
use Rattle.language.specs.Tree.{Name}
use Rattle.language.specs.Resolve.{Scope}
use Rattle.flow_graph.specs.Located.{bit_of_name}
use Rattle.flow_graph.specs.Formulas.{side_value}
use Rattle.flow_graph.specs.declared.side.CompiledSide.{CompiledSide}
use Rattle.flow_graph.specs.declared.side.CompiledSide.TheVariants as side
use Rattle.flow_graph.specs.declared.assignment.Write.{Write}

-- the valuation with this value for the bits of a mask
abbrev pub masked : ℕ → ℕ → Bool → ℕ
masked values mask true = bit_or values mask
masked values mask false = bit_xor (bit_or values mask) mask

-- the choice for the right sides after this one
abbrev pub choice_left : {Alloc : Type 0} → CompiledSide Alloc → ℕ → ℕ
choice_left side.Any choice = choice / 2
choice_left (side.Value formula) choice = choice

-- the valuation after the writes, whose right sides are computed over `values`
abbrev pub after_writes : {Alloc : Type 0} → List (Write Alloc) → ℕ → ℕ → ℕ → ℕ
after_writes [] values choice next = next
after_writes (write ∷ writes) values choice next =
    after_writes writes values (choice_left write.side choice) (masked next write.mask (side_value write.side values choice))

-- 1 for `?`
abbrev pub any_of : {Alloc : Type 0} → CompiledSide Alloc → ℕ
any_of side.Any = 1
any_of (side.Value formula) = 0

-- how many right sides are `?`
abbrev pub anys : {Alloc : Type 0} → List (Write Alloc) → ℕ
anys [] = 0
anys (write ∷ writes) = any_of write.side + anys writes

-- the bit is this one
abbrev pub is_bit : ℕ → Option ℕ → Bool
is_bit bit None = false
is_bit bit (Some other) = other == bit

-- the bit is one of these
abbrev pub is_among : ℕ → List (Option ℕ) → Bool
is_among bit [] = false
is_among bit (t ∷ ts) = cond (is_bit bit t) true (is_among bit ts)

-- the bit whose value lasts: it is not one of the later ones
abbrev pub lasting : Option ℕ → List (Option ℕ) → Option ℕ
lasting None ts = None
lasting (Some bit) ts = cond (is_among bit ts) None (Some bit)

-- the bit of a target, if none of the later targets has it
abbrev pub lasting_bit : Scope → Name → List Name → Option ℕ
lasting_bit scope name later = lasting (bit_of_name scope name) (map (bit_of_name scope) later)
