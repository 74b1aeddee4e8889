use Rattle.std.proofs.Common.{false, ◌∙◌, ap, [], ◌∷◌, ◌++◌, reverse, codes}
use Rattle.std.proofs.lemmas.Result.{IfOk-weaker}
use Rattle.language.specs.Tree.{const, value, assign}
use Rattle.trees.specs.Trees.{simple, names_of}
use Rattle.round_rewrite.specs.Table.{each}
use Rattle.round_rewrite.specs.Names.{fresh_name, bit_names}
use Rattle.round_rewrite.proofs.main_procedure.reset.Goals as goal

pub returns : goal.returns
returns g c =
    let bits = c.in_ok-bits.ensures
    ∙ (λ i. names_of (c.new.ensures.items i) ++ reverse (bit_names (c.bits.ensures.count i))) in
    let targets = c.in_ok-targets.ensures ∙ ap (λ ns. ns ++ fresh_name (codes "stop__") ∷ []) bits in
    IfOk-weaker c.set_all.result _ _ (λ _ e. e ∙ ap (λ ns. simple (assign ns (each (value (const false)) ns))) targets) c.set_all.ensures
