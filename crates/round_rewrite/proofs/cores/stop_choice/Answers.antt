use Rattle.std.proofs.Common.{true, [], ◌∷◌, ◌++◌, codes, ◌∙◌, ap}
use Rattle.language.specs.Tree.{const, any, value, assign, done}
use Rattle.trees.specs.Trees.{simple, branch, names_of, marked_before}
use Rattle.round_rewrite.specs.Table.{no_mark, each}
use Rattle.round_rewrite.specs.Names.{fresh_name}
use Rattle.trees.proofs.Folds.{deed_of-Skip, deed_of-If}
use Rattle.round_rewrite.proofs.cores.stop_choice.Goals as goal

pub returns : goal.returns
returns g c =
    let stop = c.in_ok-stop.ensures ∙ ap (λ ns. names_of ns ++ fresh_name (codes "stop__") ∷ []) c.new.ensures.items in
    let set = c.in_ok-set_all.ensures ∙ ap (λ ns. simple (assign ns (each (value (const true)) ns))) stop in
    let yes = c.in_ok-yes.ensures ∙ ap (λ d. marked_before no_mark d done) set in
    let no = c.in_ok-no.ensures ∙ ap (λ d. marked_before no_mark d done) (deed_of-Skip g.row.A.Denot) in
    deed_of-If _ _ _ ∙ (λ i. branch any (yes i) (no i))
