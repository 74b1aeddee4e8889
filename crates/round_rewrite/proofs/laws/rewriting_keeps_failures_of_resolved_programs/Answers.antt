use Rattle.std.proofs.Common.{ℕ, zero, suc, ◌≤◌, arith}
use Rattle.language.specs.Step.{Program}
use Rattle.resolved.specs.Scoped.{FitsScopes}
use Rattle.round_rewrite.specs.Law.{KeepsFailures}
use Rattle.round_rewrite.specs.Limits.{most_rounds}
use Rattle.round_rewrite.proofs.Theorem.{keeps}
use Rattle.round_rewrite.proofs.laws.rewriting_keeps_failures_of_resolved_programs.Goals as goal

kept : (p : Program) (rounds : ℕ) → FitsScopes p → 1 ≤ rounds → rounds ≤ most_rounds → KeepsFailures rounds p
kept p zero fits some few = absurd (omega arith)
kept p (suc last) fits some few = keeps p last fits (omega arith)

pub returns : goal.returns
returns c = kept
