use Rattle.std.proofs.Common.{◌∙◌, ap, ◌++◌, map}
use Rattle.language.specs.Tree.{assign}
use Rattle.trees.specs.Trees.{simple, names_of}
use Rattle.round_rewrite.specs.Names.{save_name}
use Rattle.trees.proofs.Folds.{deed_of-Assign}
use Rattle.round_rewrite.proofs.main_procedure.MainWriter.saved.Goals as goal

pub returns : goal.returns
returns g c =
    let xs = names_of c.args.self.now.globals.now in
    let kept = c.in_ok-kept.ensures ∙ ap (λ ns. names_of ns ++ map (save_name c.args.round) xs) c.new.ensures.items in
    deed_of-Assign _ _ ∙ (λ i. simple (assign (kept i) (c.in_ok-values.ensures i)))
