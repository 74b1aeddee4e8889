use Rattle.std.proofs.Common.{◌≡◌, sym, ◌∙◌, subst, Some}
use mathlib.Core.Option.{some-injective}
use Rattle.ticket_lock.specs.Lone.{Rests, KeepsParts}
use Rattle.ticket_lock.proofs.LoneSteps.{closes}
use Rattle.ticket_lock.proofs.close.finish.Goals as goal

pub unreachable-requires : goal.unreachable-requires
unreachable-requires g c =
    let L = g.T.LaneLaw in
    let key = c.args.board.shared.key in
    let r =
    closes L.before L.part key.value.value key.lanes c.args.seat.id c.args.seat.me.0 _ _ c.requires.whole
    c.close_with-closed.ensures.values.2 in
    c.in_default.not-Some r.0 (sym (some-injective (Some r.0) c.take-last.result (sym r.1 ∙ c.take-last.ensures.value)))

pub returns : goal.returns
returns g c =
    let L = g.T.LaneLaw in
    let key = c.args.board.shared.key in
    let r =
    closes L.before L.part key.value.value key.lanes c.args.seat.id c.args.seat.me.0 _ _ c.requires.whole
    c.close_with-closed.ensures.values.2 in
    let e : Some r.0 ≡ Some c.in-Some.value = some-injective (Some r.0) c.take-last.result (sym r.1 ∙ c.take-last.ensures.value)
    ∙ c.in-Some.is in
    let same : r.0 ≡ c.in-Some.value = cc in
    record {
      rests = subst (λ x. Rests key.value.value c.args.seat.me.0 x) same r.2;
      parts = subst (λ x. KeepsParts L.part c.args.seat.me.0 x) same r.3;
      rises = r.4;
    }
