use Rattle.std.proofs.Common.{cond, map, suc, [], ◌∷◌, ◌++◌, ◌∙◌, ap, sym}
use Rattle.std.proofs.lemmas.List.{map-append}
use Rattle.std.proofs.lemmas.Result.{IfOk-weaker}
use Rattle.trees.specs.Trees.{name_of, names_of}
use Rattle.round_rewrite.specs.Table.{numbers}
use Rattle.round_rewrite.specs.Names.{copy_name}
use Rattle.round_rewrite.proofs.PushLemmas.{put_is}
use Rattle.round_rewrite.proofs.writer.Writer.targets_for.Goals as goal

pub returns-then-is_shared : goal.returns-then-is_shared
returns-then-is_shared g c =
    let x = name_of c.args.x.now in
    let copies = map (λ k. copy_name k x) (numbers 0 (suc c.args.self.now.rounds.last)) in
    IfOk-weaker c.copies.result _ _
    (λ _ l. l ∙ ap (λ b. names_of c.args.into.now.items ++ cond b copies (x ∷ [])) (sym c.if-is_shared.true ∙ c.is_shared.ensures))
    c.copies.ensures

pub returns-else-is_shared : goal.returns-else-is_shared
returns-else-is_shared g c =
    let x = name_of c.args.x.now in
    let copies = map (λ k. copy_name k x) (numbers 0 (suc c.args.self.now.rounds.last)) in
    IfOk-weaker c.put_made.result _ _
    (λ _ l. let one = put_is name_of c.clone_name.result _ _ _ l c.clone_name.ensures in
    ap names_of one.1 ∙ (map-append name_of c.args.into.now.items _
    ∙ (ap (λ n. names_of c.args.into.now.items ++ n ∷ []) one.2
    ∙ ap (λ b. names_of c.args.into.now.items ++ cond b copies (x ∷ [])) (sym c.if-is_shared.false ∙ c.is_shared.ensures))))
    c.put_made.ensures
