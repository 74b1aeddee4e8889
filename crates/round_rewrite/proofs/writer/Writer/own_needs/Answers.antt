use Rattle.std.proofs.Common.{max, ◌∙◌, ap}
use Rattle.round_rewrite.specs.Table.{receiver_draws, draws}
use Rattle.round_rewrite.specs.Writing.{naming_of}
use Rattle.round_rewrite.proofs.writer.Writer.own_needs.Goals as goal

pub returns : goal.returns
returns g c =
    let shared = (naming_of c.args.self.now).is_shared in
    let taken = c.receiver_draws.ensures ∙ ap (receiver_draws shared) c.receiver.ensures in
    let drawn = c.draws.ensures.count ∙ (λ i. draws shared (c.targets.ensures i) (c.sides.ensures i)) in
    c.larger.ensures ∙ (λ i. max (taken i) (drawn i))
