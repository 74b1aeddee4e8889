use Rattle.std.proofs.Common.{◌≡◌, true, [], ◌∷◌, ◌++◌, codes, ◌∙◌, ap}
use Rattle.std.proofs.lemmas.Result.{IfOk-weaker}
use Rattle.language.specs.Tree.{const, value, assign, done, leave}
use Rattle.trees.specs.Trees.{simple, names_of, deed_of, items_of, marked_before, all_before}
use Rattle.round_rewrite.specs.Table.{no_mark, each}
use Rattle.round_rewrite.specs.Names.{fresh_name}
use Rattle.round_rewrite.proofs.AppendLemmas.{made}
use Rattle.trees.proofs.Folds.{deed_of-Return}
use Rattle.round_rewrite.proofs.cores.failed.Goals as goal

pub returns : goal.returns
returns g c =
    let one = fresh_name (codes "bad__") ∷ [] in
    let two = fresh_name (codes "bad__") ∷ fresh_name (codes "stop__") ∷ [] in
    let bad = c.in_ok-bad.ensures ∙ ap (λ ns. names_of ns ++ one) c.new.ensures.items in
    let both = c.in_ok-both.ensures ∙ ap (λ ns. ns ++ fresh_name (codes "stop__") ∷ []) bad in
    let set = IfOk-weaker c.set_all.result _ (λ d. deed_of d ≡ simple (assign two (each (value (const true)) two)))
    (λ _ e. e ∙ ap (λ ns. simple (assign ns (each (value (const true)) ns))) both) c.set_all.ensures in
    c.in_ok-push.ensures done
    ∙ (ap (λ d. all_before (items_of c.push_made.new.into.items) (marked_before no_mark d done)) (deed_of-Return g.row.A.Denot)
    ∙ (made c.set_all.result _ _ no_mark _ c.in_ok-push_made.ensures set (marked_before no_mark (simple leave) done)
    ∙ ap (λ ss. all_before (items_of ss) _) c.new-block.ensures.items))
