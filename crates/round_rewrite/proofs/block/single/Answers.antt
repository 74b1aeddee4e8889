use Rattle.std.proofs.Common.{◌∙◌, ap}
use Rattle.language.specs.Tree.{done}
use Rattle.trees.specs.Trees.{items_of, deed_of, marked_before, all_before}
use Rattle.round_rewrite.specs.Table.{no_mark}
use Rattle.round_rewrite.proofs.block.single.Goals as goal

pub returns : goal.returns
returns g c =
    c.in_ok-push.ensures done
    ∙ ap (λ ss. all_before (items_of ss) (marked_before no_mark (deed_of c.args.core) done)) c.new-block.ensures.items
