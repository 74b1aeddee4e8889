use Rattle.std.proofs.Common.{◌≡◌, ◌∙◌, ℕ, sym, ap}
use Rattle.std.proofs.lemmas.Option.{same_Some}
use Rattle.turns.specs.Numbered.{globals_in, places_in, placed}
use Rattle.saturation.specs.Leads.{head}
use Rattle.saturation.proofs.FollowLemmas.{ok_map}
use Rattle.saturation.proofs.following.reach_next.Goals as goal

pub returns-clause-all : goal.returns-clause-all
returns-clause-all g c = ok_map c.reach.result (λ added x (point, values, is, same).
    let parts : (c.in-Some.point, c.in-Some.values) ≡ (point, values) = same_Some _ _ (sym c.in-Some.is ∙ is) in (
      _,
      added,
      (λ i. head (c.parts-globals.ensures.globals i) (c.parts-globals.ensures.frame i) c.args.top.below)
          ∙ ap
          (λ (z : ℕ × ℕ).
          head (globals_in c.args.graph.now z.1)
          (placed c.args.top.frame.procedure z.0 (places_in c.args.graph.now z.1)) c.args.top.below) parts
          ∙ sym same,
    )) c.reach.ensures.added
