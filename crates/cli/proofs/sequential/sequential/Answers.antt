-- What is printed is the rewritten program.
use Rattle.std.proofs.Common.{◌≡◌, ◌∙◌, sym, ap, subst}
use Rattle.std.specs.String.{string_bytes}
use Rattle.language.specs.Tree.{Tree}
use Rattle.grammar.specs.InGrammar.{InGrammar}
use Rattle.syntax.specs.Text.{IsTextOf}
use Rattle.trees.specs.Trees.{tree_of}
use Rattle.grammar.specs.Printed.{printed}
use Rattle.cli.proofs.sequential.sequential.Goals as goal

pub returns-clause-printed : goal.returns-clause-printed
returns-clause-printed g c =
    let found = c.in_ok-sequential.ensures.rewriting in
    let lent : tree_of c.program.result.now ≡ tree_of c.in_ok-sequential.sequential.program = ap tree_of c.program.ensures in
    let rewritten = lent ∙ found.same in
    record {
      tree = found.tree;
      of = found.of;
      checked = found.checked;
      same = c.in-Ok.ensures.form ∙ ap printed rewritten;
      back = λ within. subst (λ (t : Tree). IsTextOf (string_bytes c.in-Ok.printed) t) rewritten
          (c.in-Ok.ensures.back (subst InGrammar (sym lent) found.grammar) within);
    }
