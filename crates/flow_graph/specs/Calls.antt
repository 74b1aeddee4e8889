-- What a compiled call enters its procedure with, and what the caller continues with.
use Rattle.std.specs.Prelude.{ℕ, ◌+◌, ◌-◌, ◌*◌, ◌^◌, ◌%◌, List, map}
use Rattle.flow_graph.specs.Bits.{coded}
use Rattle.flow_graph.specs.Assignments.{masked}
use Rattle.flow_graph.specs.Formulas.{says}
use Rattle.flow_graph.specs.declared.formula.Formula.{Formula}
use Rattle.flow_graph.specs.declared.exit.Exit.{Exit}

-- for this number of globals: those of the caller's valuation, and above them the arguments
abbrev pub call_entry : {Alloc : Type 0} → ℕ → List (Formula Alloc) → ℕ → ℕ
call_entry globals arguments values = values % 2 ^ globals + 2 ^ globals * coded (map (λ f. says f values) arguments)

-- for this number of globals: those left, above them the places of the caller's valuation, and the result where
-- the bit of the target is
abbrev pub resumed : ℕ → ℕ → ℕ → Exit → ℕ
resumed globals target values left =
    masked (left.globals % 2 ^ globals + (values - values % 2 ^ globals)) target left.result
