-- No pair so far has the bit.
use Rattle.std.proofs.Common.{◌≡◌, ◌<◌, ℕ, true, Some, slice_get}
use Rattle.flow_graph.specs.Bits.{bit_of}
use Rattle.summaries.specs.declared.pair.Pair.{Pair}
use Rattle.summaries.proofs.summaries.Summaries.bad.Given as goal

abbrev pub invariant-loop-pair : goal.invariant-loop-pair
invariant-loop-pair g l = (q : ℕ) (x : Pair) → q < l.pair-index → slice_get l.pair-items q ≡ Some x → bit_of x.b l.fn.self.bad ≡ true → ⊥
