-- the writes begin at none of the bits so far
use Rattle.std.proofs.Common.{◌≡◌, ◌<◌, ℕ, false}
use Rattle.flow_graph.specs.Joining.{all_choose}
use Rattle.flow_graph.proofs.joining.first_chosen.Given as goal

abbrev pub invariant-loop-first : goal.invariant-loop-first
invariant-loop-first g l = (bit : ℕ) → bit < l.first → all_choose l.writes bit ≡ false
