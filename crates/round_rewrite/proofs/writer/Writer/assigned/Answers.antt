use Rattle.std.proofs.Common.{◌∙◌, ap, ◌++◌}
use Rattle.std.proofs.lemmas.Result.{IfOk-weaker}
use Rattle.language.specs.Tree.{assign}
use Rattle.trees.specs.Trees.{simple, names_of, rhss_of, items_of, all_before}
use Rattle.round_rewrite.specs.Table.{no_mark, drawing, targets, sides}
use Rattle.round_rewrite.specs.Writing.{naming_of}
use Rattle.round_rewrite.proofs.AppendLemmas.{laid}
use Rattle.trees.proofs.Folds.{deed_of-Assign}
use Rattle.round_rewrite.proofs.writer.Writer.assigned.Goals as goal

pub returns : goal.returns
returns g c =
    let w = naming_of c.args.self.now in
    let last = c.args.self.now.rounds.last in
    let xs = names_of c.args.xs.now in
    let rs = rhss_of c.args.rs.now in
    let left = c.in_ok-both_sides.ensures.targets ∙ ap (λ ns. names_of ns ++ targets w last xs rs) c.new-targets.ensures.items in
    let right = c.in_ok-both_sides.ensures.sides ∙ ap (λ ns. rhss_of ns ++ sides w last 0 xs rs) c.new-sides.ensures.items in
    let deed = deed_of-Assign _ _ ∙ (λ i. simple (assign (left i) (right i))) in
    IfOk-weaker c.push.result _ _
    (λ _ l k. laid _ _ no_mark _ _ l deed k
    ∙ (c.in_ok-drawing.ensures _
    ∙ ap (λ n. all_before (items_of c.args.into.now.items) (drawing w last n
    (Rattle.language.specs.Tree.one no_mark (assign (targets w last xs rs) (sides w last 0 xs rs)) k))) c.draws.ensures.count))
    c.push.ensures
