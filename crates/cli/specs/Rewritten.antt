-- The sequential program of a text.
use Rattle.std.specs.Prelude.{◌≡◌, ℕ, List}
use Rattle.language.specs.Tree.{Tree}
use Rattle.grammar.specs.InGrammar.{InGrammar}
use Rattle.syntax.specs.Text.{Text}
use Rattle.checked.specs.Checked.{IsChecked}
use Rattle.round_rewrite.specs.Law.{KeepsTree}
use Rattle.round_rewrite.specs.Names.{rewritten_for}
use Rattle.round_rewrite.specs.Narrow.{IsNarrowFor}

-- The text is that of a checked program, and `sequential` is the tree of the grammar that the program is rewritten to
-- for K rounds, which is not too wide and keeps exactly the failing asserts.
pub record IsRewriting (text : List ℕ) (rounds : ℕ) (sequential : Tree) : Type 0 where
  pub tree : Tree
  pub of : Text text tree
  pub checked : IsChecked tree
  pub narrow : IsNarrowFor rounds tree
  pub same : sequential ≡ rewritten_for rounds tree
  pub grammar : InGrammar sequential
  pub keeps : KeepsTree rounds tree
