use Rattle.std.proofs.Common.{[], ◌∷◌, ◌++◌, ◌∙◌, ap, sym}
use Rattle.std.proofs.lemmas.List.{map-append}
use Rattle.std.proofs.lemmas.Result.{IfOk-weaker}
use Rattle.trees.specs.Trees.{name_of, expr_of, rhs_of, rhss_of}
use Rattle.round_rewrite.specs.Table.{sides}
use Rattle.round_rewrite.specs.Writing.{naming_of}
use Rattle.round_rewrite.proofs.PushLemmas.{put_is}
use Rattle.round_rewrite.proofs.TargetLemmas.{side_kept, side_drawn, side_value}
use Rattle.round_rewrite.proofs.writer.Writer.sides_for.Goals as goal

pub returns-then-not-is_shared : goal.returns-then-not-is_shared
returns-then-not-is_shared g c =
    let old = rhss_of c.args.into.now.items in
    IfOk-weaker c.put_made.result _ _
    (λ _ l. let one = put_is rhs_of c.side.result _ _ _ l c.side.ensures in
    ap rhss_of one.1 ∙ (map-append rhs_of c.args.into.now.items _
    ∙ (ap (λ s. old ++ s ∷ []) one.2
    ∙ ap (λ z. old ++ z) (side_kept (naming_of c.args.self.now) c.args.self.now.rounds.last c.args.number (name_of c.args.x.now)
    (rhs_of c.args.r.now) (sym c.is_shared.ensures ∙ c.if-not-is_shared.true)))))
    c.put_made.ensures

pub returns-in-Any : goal.returns-in-Any
returns-in-Any g c =
    let w = naming_of c.args.self.now in
    let last = c.args.self.now.rounds.last in
    let x = name_of c.args.x.now in
    let old = rhss_of c.args.into.now.items in
    IfOk-weaker c.drawn_sides.result _ _
    (λ _ l. l ∙ (ap (λ z. old ++ z) (side_drawn w last c.args.number x (sym c.is_shared.ensures ∙ c.if-not-is_shared.false))
    ∙ ap (λ r. old ++ sides w last c.args.number (x ∷ []) (rhs_of r ∷ [])) (sym c.in-Any.is)))
    c.drawn_sides.ensures

pub returns-in-Value : goal.returns-in-Value
returns-in-Value g c =
    let w = naming_of c.args.self.now in
    let last = c.args.self.now.rounds.last in
    let x = name_of c.args.x.now in
    let old = rhss_of c.args.into.now.items in
    IfOk-weaker c.value_sides.result _ _
    (λ _ l. l
    ∙ (ap (λ z. old ++ z)
    (side_value w last c.args.number x (expr_of c.in-Value.e) (sym c.is_shared.ensures ∙ c.if-not-is_shared.false))
    ∙ ap (λ r. old ++ sides w last c.args.number (x ∷ []) (rhs_of r ∷ [])) (sym c.in-Value.is)))
    c.value_sides.ensures
