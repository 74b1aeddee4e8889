use Rattle.std.proofs.Common.{suc, sym, subst, ap, arith}
use Rattle.language.specs.Tree.{Tree}
use Rattle.grammar.specs.InGrammar.{InGrammar}
use Rattle.trees.specs.Trees.{tree_of}
use Rattle.round_rewrite.specs.Law.{KeepsTree}
use Rattle.resolved.specs.Resolves.{Resolves}
use Rattle.checked.proofs.Rewriting.{checked_rewritable}
use Rattle.resolved.specs.Narrow.{AllNarrow}
use Rattle.round_rewrite.proofs.Widths.{few_procedures, count_rewritten}
use Rattle.round_rewrite.proofs.WorkLemmas.{rewritten_resolves}
use Rattle.round_rewrite.proofs.Readable.{rewritten_in_grammar}
use Rattle.round_rewrite.proofs.MeaningLemmas.{keeps_tree}
use Rattle.round_rewrite.proofs.rewriting.rewrite.Goals as goal

pub returns-clause-keeps : goal.returns-clause-keeps
returns-clause-keeps g c =
    let last = c.args.rounds.last in
    subst (λ (t : Tree). KeepsTree (suc last) t) (ap tree_of c.program-source.ensures.same)
    (keeps_tree (tree_of c.program-source.result.now) last
    (checked_rewritable (tree_of c.program-source.result.now) c.program-source.ensures.checked)
    c.args.rounds.few (c.is_narrow.ensures.0 c.if-not-is_narrow.false))

pub invariant_of-result-clause-resolves : goal.invariant_of-result-clause-resolves
invariant_of-result-clause-resolves g c =
    subst Resolves (sym c.in_ok-program.ensures)
    (rewritten_resolves (tree_of c.program-source.result.now) c.args.rounds.last c.program-source.ensures.checked c.args.rounds.few)

pub invariant_of-result-clause-narrow : goal.invariant_of-result-clause-narrow
invariant_of-result-clause-narrow g c = subst AllNarrow (sym c.in_ok-program.ensures) (c.is_narrow.ensures.0 c.if-not-is_narrow.false)

pub invariant_of-result-clause-some : goal.invariant_of-result-clause-some
invariant_of-result-clause-some g c =
    omega (
      arith,
      count_rewritten c.args.rounds.last (tree_of c.program-source.result.now) c.in_ok-program.program.procs.items
          (ap (λ (t : Tree). t.procedures) c.in_ok-program.ensures),
    )

pub invariant_of-result-clause-few : goal.invariant_of-result-clause-few
invariant_of-result-clause-few g c =
    let t = tree_of c.program-source.result.now in
    omega (
      arith,
      few_procedures t c.program-source.ensures.checked,
      count_rewritten c.args.rounds.last t c.in_ok-program.program.procs.items (ap (λ (t : Tree). t.procedures) c.in_ok-program.ensures),
    )

pub returns-clause-grammar : goal.returns-clause-grammar
returns-clause-grammar g c = λ h.
    subst InGrammar (sym c.in_ok-program.ensures)
    (rewritten_in_grammar (tree_of c.program-source.result.now) c.args.rounds.last c.args.rounds.few
    (c.is_narrow.ensures.0 c.if-not-is_narrow.false)
    (subst InGrammar (ap tree_of (sym c.program-source.ensures.same)) h))
