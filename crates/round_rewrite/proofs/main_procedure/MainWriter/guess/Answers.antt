use Rattle.std.proofs.Common.{refl, ◌∙◌, ap, sym, []}
use Rattle.std.proofs.lemmas.Result.{IfOk-weaker}
use Rattle.trees.specs.Trees.{names_of, items_of, all_before}
use Rattle.round_rewrite.specs.Table.{no_mark}
use Rattle.round_rewrite.specs.Names.{by_names}
use Rattle.round_rewrite.proofs.AppendLemmas.{made}
use Rattle.round_rewrite.proofs.TargetLemmas.{empty}
use Rattle.round_rewrite.proofs.Mains.{guess_some}
use Rattle.round_rewrite.proofs.main_procedure.MainWriter.guess.Goals as goal

pub returns : goal.returns
returns g c =
    let xs = names_of c.args.self.now.globals.now in
    let drawn = made c.drawn.result _ _ no_mark _ c.in_ok-push_made.ensures c.drawn.ensures in
    IfOk-weaker c.push_made-2.result _ _
    (λ _ l k. made c.saved.result _ _ no_mark _ l c.saved.ensures k
    ∙ (drawn _
    ∙ ap (all_before (items_of c.args.into.now.items)) (sym (guess_some (by_names []) c.args.self.now.rounds.last xs _ _ c.args.round k
    (ap names_of c.in-Some.ensures.cases.0)))))
    c.push_made-2.ensures

pub returns-in_default : goal.returns-in_default
returns-in_default g c = λ k. rw (empty c.args.self.now.globals.now c.in_default.ensures.cases) refl
