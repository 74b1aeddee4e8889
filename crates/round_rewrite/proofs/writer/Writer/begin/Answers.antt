use Rattle.std.proofs.Common.{◌∙◌}
use Rattle.std.proofs.lemmas.Result.{IfOk-weaker}
use Rattle.trees.specs.Trees.{items_of, all_before}
use Rattle.round_rewrite.specs.Table.{prologue}
use Rattle.round_rewrite.specs.Writing.{naming_of}
use Rattle.round_rewrite.proofs.writer.Writer.begin.Goals as goal

pub returns : goal.returns
returns g c =
    IfOk-weaker c.prologue.result _ _
    (λ _ l k. l k
    ∙ (λ i. all_before (items_of c.args.into.now.items)
    (prologue (naming_of c.args.self.now) c.args.self.now.rounds.last
    (record { label = c.in_ok-label.ensures i; at = c.args.stmt.now.at }) k)))
    c.prologue.ensures
