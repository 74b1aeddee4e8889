use Rattle.std.proofs.Common.{◌∙◌, ap}
use Rattle.language.specs.Tree.{const, value, assign}
use Rattle.trees.specs.Trees.{simple, names_of}
use Rattle.round_rewrite.specs.Table.{each}
use Rattle.trees.proofs.Folds.{deed_of-Assign}
use Rattle.round_rewrite.proofs.cores.set_all.Goals as goal

pub returns : goal.returns
returns g c =
    let sides = c.in_ok-sides.ensures ∙ ap (λ ns. each (value (const c.args.bit)) (names_of ns)) c.deref.ensures.value in
    deed_of-Assign _ _ ∙ ap (λ rs. simple (assign (names_of c.args.targets.items) rs)) sides
