use Rattle.std.proofs.Common.{◌∙◌, refl, ap, arith, []}
use Rattle.language.specs.Tree.{any}
use Rattle.trees.specs.Trees.{rhs_of, rhss_of}
use Rattle.trees.specs.declared.tree.Rhs.TheVariants as rhs
use Rattle.round_rewrite.specs.Table.{numbers, each}
use Rattle.round_rewrite.proofs.PushLemmas.{pushed}
use Rattle.round_rewrite.proofs.assignment.any_values.Goals as goal

pub loop-preserved : goal.loop-preserved
loop-preserved g c =
    ap rhss_of c.in_ok-put.ensures
    ∙ pushed rhs_of (λ w. any) [] c.loop.list.items rhs.Any c.loop.counter c.loop.invariant refl

pub returns : goal.returns
returns g c =
    let low = c.loop-test.false in
    let high = c.loop.auto.counter-end in
    c.loop.invariant ∙ ap (λ n. each any (numbers 0 n)) (omega (arith, low, high))
