-- The tables before `at` owe no message; each message answered is taken.
use Rattle.std.proofs.Common.{◌≤◌, ◌^◌, ℕ, length}
use Rattle.summaries.specs.Together.{HaveLimit, AreTables, AreQuietBefore}
use Rattle.summaries.proofs.Steps.{room, steps_left}
use Rattle.summaries.proofs.tabulation.run.Given as goal

abbrev pub invariant-loop-at : goal.invariant-loop-at
invariant-loop-at g l = record {
  tables : AreTables g.S.PathSet.members g.program (λ x. ⊥) l.tables.items;
  quiet : AreQuietBefore g.S.PathSet.members l.at l.tables.items;
  within : l.at ≤ length l.tables.items;
  limits : (n : ℕ) → HaveLimit n l.fn.tables.items → HaveLimit n l.tables.items;
}

abbrev pub decreases-loop-at : goal.decreases-loop-at
decreases-loop-at g l = steps_left (room (2 ^ 64) l.tables.items) (length l.tables.items) l.at
