use Rattle.std.proofs.Common.{◌∙◌, ap, ◌++◌, map}
use Rattle.language.specs.Tree.{any, assign}
use Rattle.trees.specs.Trees.{simple, name_of, names_of}
use Rattle.round_rewrite.specs.Names.{copy_name}
use Rattle.round_rewrite.proofs.PushLemmas.{each_number}
use Rattle.trees.proofs.Folds.{deed_of-Assign}
use Rattle.round_rewrite.proofs.main_procedure.MainWriter.drawn.Goals as goal

pub returns : goal.returns
returns g c =
    let xs = names_of c.args.self.now.globals.now in
    let targets = c.in_ok-targets.ensures ∙ ap (λ ns. names_of ns ++ map (copy_name c.args.round) xs) c.new.ensures.items in
    let sides = c.in_ok-sides.ensures
    ∙ each_number any name_of c.args.self.now.globals.now 0 in
    deed_of-Assign _ _ ∙ (λ i. simple (assign (targets i) (sides i)))
