use Rattle.std.proofs.Common.{◌∙◌, ◌++◌, reverse}
use Rattle.language.specs.Tree.{assign}
use Rattle.trees.specs.Trees.{simple, names_of}
use Rattle.round_rewrite.specs.Table.{raised}
use Rattle.round_rewrite.specs.Names.{bit_names}
use Rattle.trees.proofs.Folds.{deed_of-Assign}
use Rattle.round_rewrite.proofs.writer.Writer.next_round.Goals as goal

pub returns : goal.returns
returns g c =
    let targets = c.in_ok-targets.ensures
    ∙ (λ i. names_of (c.new.ensures.items i) ++ reverse (bit_names (c.bits-bits.ensures.count i))) in
    let sides = c.in_ok-sides.ensures ∙ (λ i. reverse (raised (bit_names (c.bits-bits.ensures.count i)))) in
    deed_of-Assign _ _ ∙ (λ i. simple (assign (targets i) (sides i)))
