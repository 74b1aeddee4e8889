use Rattle.std.proofs.Common.{ℕ, zero, suc, ◌≤◌, arith}
use Rattle.language.specs.Tree.{Tree}
use Rattle.round_rewrite.specs.Law.{KeepsTree}
use Rattle.round_rewrite.specs.Limits.{most_rounds}
use Rattle.round_rewrite.specs.Narrow.{IsNarrowFor}
use Rattle.checked.specs.Rewritable.{IsRewritable}
use Rattle.round_rewrite.proofs.MeaningLemmas.{keeps_tree}
use Rattle.round_rewrite.proofs.laws.rewriting_keeps_failures.Goals as goal

kept : (t : Tree) (rounds : ℕ) → IsRewritable t → IsNarrowFor rounds t → 1 ≤ rounds → rounds ≤ most_rounds
    → KeepsTree rounds t
kept t zero ok narrow some few = absurd (omega arith)
kept t (suc last) ok narrow some few = keeps_tree t last ok (omega arith) narrow

pub returns : goal.returns
returns c = kept
