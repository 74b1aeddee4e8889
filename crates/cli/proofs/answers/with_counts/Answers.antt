-- The counts come after the word, those of the program and of the report.
use Rattle.std.proofs.Common.{◌≤◌, ◌++◌, length, sym, ◌∙◌, ap, subst}
use Rattle.checked.specs.Programs.{checked_tree}
use Rattle.trees.specs.Trees.{tree_of}
use Rattle.cli.specs.Counts.{procedure_names, counts_lines}
use Rattle.cli.specs.Counted.{counted_each}
use Rattle.cli.proofs.answers.with_counts.Goals as goal

pub push_counts-requires : goal.push_counts-requires
push_counts-requires g c =
    let same = ap (λ p. length (procedure_names (tree_of p))) c.program.ensures.same in
    record {
      all = c.requires.summaries ∙ sym same;
      boxes = ap length c.as_slice.ensures.value ∙ c.requires.mailboxes ∙ sym same;
      few = subst (λ n. n ≤ 32) (sym same) c.requires.few;
    }

pub returns : goal.returns
returns g c =
    let word = c.args.word.now in
    let found = c.args.report.now.summaries.procedures in
    let boxes = c.as_slice.result.now in
    c.in_ok-push_counts.ensures
    ∙ ap (λ b. b ++ counts_lines (procedure_names (tree_of c.program.result.now)) (counted_each found boxes)) c.in_ok-lines.ensures.ok
    ∙ ap (λ p. word ++ counts_lines (procedure_names (tree_of p)) (counted_each found boxes)) c.program.ensures.same
    ∙ ap (λ l. word ++ counts_lines (procedure_names (checked_tree c.args.program.now)) (counted_each found l)) c.as_slice.ensures.value
