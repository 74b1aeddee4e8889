use Rattle.std.proofs.Common.{◌∙◌, ap, option_map}
use Rattle.language.specs.Resolve.{resolve_mark}
use Rattle.language.specs.Rest.{has_label}
use Rattle.trees.specs.Trees.{Item, name_of}
use Rattle.trees.proofs.Folds.{item_is}
use Rattle.trees.proofs.tree.Stmt.is_labelled.Goals as goal

pub returns-in-Some : goal.returns-in-Some
returns-in-Some g c =
    let s = c.args.self.now in
    let has = has_label c.args.label.now in
    let e = ap (λ (i : Item). has (resolve_mark i.mark)) (item_is s)
    ∙ ap (λ l. has (resolve_mark (record { label = option_map name_of l; at = s.at }))) c.in-Some.is in
    cc
