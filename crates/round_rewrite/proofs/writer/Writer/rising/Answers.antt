use Rattle.std.proofs.Common.{◌∙◌, ap}
use Rattle.language.specs.Tree.{any, done}
use Rattle.trees.specs.Trees.{repeat, items_of, all_before}
use Rattle.round_rewrite.specs.Table.{no_mark, rise}
use Rattle.round_rewrite.specs.Writing.{naming_of}
use Rattle.round_rewrite.proofs.AppendLemmas.{made}
use Rattle.trees.proofs.Folds.{deed_of-While}
use Rattle.round_rewrite.proofs.writer.Writer.rising.Goals as goal

pub returns : goal.returns
returns g c =
    let naming = naming_of c.args.self.now in
    let last = c.args.self.now.rounds.last in
    let more = made c.next_round.result _ _ no_mark _ c.in_ok-push_made-2.ensures c.next_round.ensures in
    let test = made c.not_last.result _ _ no_mark _ c.in_ok-push_made.ensures c.not_last.ensures in
    deed_of-While _ _
    ∙ ap (repeat any) (more done ∙ (test _ ∙ ap (λ ss. all_before (items_of ss) (rise naming last)) c.new-body.ensures.items))
