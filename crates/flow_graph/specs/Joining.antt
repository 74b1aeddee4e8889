-- How joint tables are made of writes.
use Rattle.std.specs.Prelude.{◌≡◌, ◌<◌, ◌/◌, ◌%◌, ◌^◌, ◌==◌, ℕ, zero, suc, nat_lt, Bool, true, false, cond}
use Rattle.std.specs.Prelude.{List, [], ◌∷◌, ◌++◌, length, get_or}
use Rattle.flow_graph.specs.Assignments.{masked, after_writes}
use Rattle.flow_graph.specs.Tables.{is_input}
use Rattle.flow_graph.specs.Windows.{seen}
use Rattle.flow_graph.specs.declared.assignment.Write.{Write}
use Rattle.flow_graph.specs.declared.formula.Formula.TheVariants.{Code, Cases as CasesOf, Table as Tabled, Bit as BitOf}
use Rattle.flow_graph.specs.declared.side.CompiledSide.{CompiledSide}
use Rattle.flow_graph.specs.declared.side.CompiledSide.TheVariants as side
use Rattle.resolved.specs.Limits.{most_places}

-- the right side is a variable or a truth table
abbrev pub reads_few : {Alloc : Type 0} → CompiledSide Alloc → Bool
reads_few side.Any = false
reads_few (side.Value (BitOf variable)) = true
reads_few (side.Value (Tabled table)) = true
reads_few (side.Value (CasesOf cases)) = false
reads_few (side.Value (Code code)) = false

-- each right side is a variable or a truth table
abbrev pub all_read_few : {Alloc : Type 0} → List (Write Alloc) → Bool
all_read_few [] = true
all_read_few (write ∷ writes) = cond (reads_few write.side) (all_read_few writes) false

-- the right side is a variable or a truth table that reads this bit
abbrev pub reads : {Alloc : Type 0} → CompiledSide Alloc → ℕ → Bool
reads side.Any bit = false
reads (side.Value (BitOf variable)) bit = bit == variable.bit
reads (side.Value (Tabled table)) bit = is_input bit (seen table.inputs.items.items)
reads (side.Value (CasesOf cases)) bit = false
reads (side.Value (Code code)) bit = false

-- some right side is a variable or a truth table that reads this bit
abbrev pub some_reads : {Alloc : Type 0} → List (Write Alloc) → ℕ → Bool
some_reads [] bit = false
some_reads (write ∷ writes) bit = cond (reads write.side bit) true (some_reads writes bit)

-- the bits below a number that variables and truth tables read, the lowest first
unfoldable pub read_bits : {Alloc : Type 0} → List (Write Alloc) → ℕ → List ℕ
read_bits writes zero = []
read_bits writes (suc bit) = read_bits writes bit ++ cond (some_reads writes bit) (bit ∷ []) []

-- the valuation with the values of the row in these bits
abbrev pub placed : List ℕ → ℕ → ℕ → ℕ
placed [] row values = values
placed (bit ∷ bits) row values = placed bits (row / 2) (masked values (2 ^ bit) (row % 2 == 1))

-- a word of 1 in each bit
abbrev pub all_bits : ℕ
all_bits = 340282366920938463463374607431768211455

-- the mask without the bits that are written
abbrev pub unwritten : {Alloc : Type 0} → List (Write Alloc) → ℕ → ℕ
unwritten [] mask = mask
unwritten (write ∷ writes) mask = unwritten writes (masked mask write.mask false)

-- the right side is `?`
abbrev pub is_any : {Alloc : Type 0} → CompiledSide Alloc → Bool
is_any side.Any = true
is_any (side.Value formula) = false

-- `?` is written to this bit
abbrev pub chooses : {Alloc : Type 0} → Write Alloc → ℕ → Bool
chooses write bit = cond (is_any write.side) (write.mask == 2 ^ bit) false

-- each of the writes is of `?`, the first one to this place, and each other one to the next
abbrev pub all_choose : {Alloc : Type 0} → List (Write Alloc) → ℕ → Bool
all_choose [] bit = true
all_choose (write ∷ writes) bit = cond (nat_lt bit most_places) (cond (chooses write bit) (all_choose writes (suc bit)) false) false

-- in each row there is what is written by the values of that row
abbrev pub AreRows : {Alloc : Type 0} → List (Write Alloc) → List ℕ → List ℕ → ℕ → Type 0
AreRows writes bits rows count =
    (length rows ≡ count) × ((row : ℕ) → row < count → get_or rows row 0 ≡ after_writes writes (placed bits row 0) 0 0)
