use Rattle.std.proofs.Common.{◌≡◌, ◌∙◌, ℕ, sym, ap}
use Rattle.std.proofs.lemmas.Option.{same_Some, none-some}
use Rattle.flow_graph.specs.Drawn.{graphs_of}
use Rattle.turns.specs.Numbered.{numbered_machine}
use Rattle.turns.specs.declared.numbered_frame.NumberedFrame.{NumberedFrame}
use Rattle.saturation.specs.Leads.{IsReturn, head}
use Rattle.saturation.proofs.FollowLemmas.{extends_as, ok_map}
use Rattle.saturation.proofs.following.reach_resumed.Goals as goal

pub returns-in_default-clause-all : goal.returns-in_default-clause-all
returns-in_default-clause-all g c = λ fails x (h, k, back, same). absurd
    (none-some (h, k) (sym c.in_default.is ∙ (c.resumed.ensures h k).0 back))

pub returns-clause-all : goal.returns-clause-all
returns-clause-all g c = λ fails. ok_map c.reach.result (λ added x (h, k, back, same).
    let parts : (c.in-Some.globals, c.in-Some.frame) ≡ (h, k) = same_Some _ _ (sym c.in-Some.is ∙ (c.resumed.ensures h k).0 back) in
    (_, added, ap (λ (z : ℕ × NumberedFrame). head z.0 z.1 c.args.caller.below) parts ∙ sym same)) c.reach.ensures.added

pub returns-clause-only : goal.returns-clause-only
returns-clause-only g c = λ fails.
    let back = (c.resumed.ensures c.in-Some.globals c.in-Some.frame).1 c.in-Some.is in
    extends_as _ (IsReturn (numbered_machine (graphs_of c.args.graphs.now) fails) c.args.finished c.args.caller)
    (λ x same. (c.in-Some.globals, c.in-Some.frame, back, same)) _ _ c.reach.ensures.grows
