-- Sets of 64 bits that tell which of many exits may be among some.
use Rattle.std.specs.Prelude.{◌≡◌, ◌+◌, ◌*◌, ◌/◌, ◌%◌, ◌^◌, ℕ, if◌then◌else◌, true}
use Rattle.path_sets.specs.Masks.{bit_of}
use Rattle.flow_graph.specs.declared.exit.Exit.{Exit}
use Rattle.summaries.specs.declared.signature.Signature.{Signature}

-- an exit folded to 64 bits
abbrev pub folded : Exit → ℕ
folded left = ((left.globals % 2 ^ 64 + left.globals / 2 ^ 64) % 2 ^ 64 + (if left.result then 1 else 0)) % 2 ^ 64

-- which of the 64 bits an exit has: the highest six of the 64 bits of a product by 2 ^ 64 divided by the golden ratio
abbrev pub bit_for : Exit → ℕ
bit_for left = folded left * 11400714819323198485 % 2 ^ 64 / 2 ^ 58

-- the exit may be among those that were added: its bit is 1
abbrev pub MayHave : Signature → Exit → Type 0
MayHave signature left = bit_of signature.bits (bit_for left) ≡ true
