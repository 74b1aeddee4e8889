use Rattle.std.proofs.Common.{◌≡◌, Some, None, slice_get, true, ap, subst, sym, ◌∙◌, true≢false, rules}
use Rattle.std.specs.Option.{option_map}
use Rattle.std.proofs.lemmas.Option.{none-some, same_Some, slice_get-map}
use Rattle.indexmap.specs.IndexMap.{keys}
use Rattle.path_sets.proofs.points.seek.is_at.Goals as goal

pub returns-in-Some : goal.returns-in-Some
returns-in-Some g c =
    let there : slice_get (keys c.args.map.now) c.args.at ≡ Some c.in-Some.used.now
    = slice_get-map (λ (e : g.row.K.Denot × g.row.V.Denot). e.0) c.args.map.now.entries c.args.at
    ∙ ap (option_map (λ (e : g.row.K.Denot × g.row.V.Denot). e.0)) (sym c.in-Some.ensures.entry) in (
      λ is. there ∙ ap Some (c.requires c.in-Some.used.now c.args.key.now (sym c.eq.ensures ∙ is)),
      λ own. c.eq.ensures
          ∙ subst (λ k. g.K.PartialEq.eq c.in-Some.used.now k ≡ true) (same_Some c.in-Some.used.now c.args.key.now (sym there ∙ own))
          (search rules),
    )

pub returns-in-None : goal.returns-in-None
returns-in-None g c =
    let there : slice_get (keys c.args.map.now) c.args.at ≡ None
    = slice_get-map (λ (e : g.row.K.Denot × g.row.V.Denot). e.0) c.args.map.now.entries c.args.at
    ∙ ap (option_map (λ (e : g.row.K.Denot × g.row.V.Denot). e.0)) (sym c.in-None.ensures.entry) in (
      λ is. absurd (true≢false (sym is)),
      λ own. absurd (none-some c.args.key.now (sym there ∙ own)),
    )
