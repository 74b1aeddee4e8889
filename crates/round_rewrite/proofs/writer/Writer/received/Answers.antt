use Rattle.std.proofs.Common.{suc, map, ◌++◌, ◌∙◌, ap}
use Rattle.std.proofs.lemmas.Result.{IfOk-weaker}
use Rattle.language.specs.Tree.{assign, var}
use Rattle.trees.specs.Trees.{simple, name_of, names_of, rhss_of}
use Rattle.round_rewrite.specs.Table.{no_mark, numbers, copy_value}
use Rattle.round_rewrite.specs.Names.{copy_name, drawn_name}
use Rattle.round_rewrite.specs.Writing.{naming_of}
use Rattle.round_rewrite.proofs.AppendLemmas.{laid}
use Rattle.trees.proofs.Folds.{deed_of-Assign}
use Rattle.round_rewrite.proofs.writer.Writer.received.Goals as goal

pub returns : goal.returns
returns g c =
    let w = naming_of c.args.self.now in
    let last = c.args.self.now.rounds.last in
    let x = name_of c.args.x.now in
    let ks = numbers 0 (suc last) in
    let left = c.in_ok-copies.ensures ∙ ap (λ ns. names_of ns ++ map (λ k. copy_name k x) ks) c.new-targets.ensures.items in
    let right =
    c.in_ok-drawn_sides.ensures ∙ ap (λ ns. rhss_of ns ++ map (copy_value w last (var (drawn_name 0)) x) ks) c.new-sides.ensures.items in
    let deed = deed_of-Assign _ _ ∙ (λ i. simple (assign (left i) (right i))) in
    IfOk-weaker c.push.result _ _
    (λ _ l k. laid _ _ no_mark _ _ l deed k ∙ c.in_ok-prologue.ensures _)
    c.push.ensures
