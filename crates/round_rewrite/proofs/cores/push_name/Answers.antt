use Rattle.std.proofs.Common.{◌∙◌, ap, [], ◌∷◌, ◌++◌}
use Rattle.std.proofs.lemmas.List.{map-append}
use Rattle.trees.specs.Trees.{name_of, names_of}
use Rattle.round_rewrite.proofs.PushLemmas.{put_is}
use Rattle.round_rewrite.proofs.cores.push_name.Goals as goal

pub returns : goal.returns
returns g c =
    let one = put_is name_of c.fixed.result _ _ _ c.in_ok-put_made.ensures c.fixed.ensures in
    ap names_of one.1
    ∙ (map-append name_of c.args.into.items _ ∙ ap (λ n. names_of c.args.into.items ++ n ∷ []) one.2)
