-- The globals are those of the text.
use Rattle.std.proofs.lemmas.Result.{on_ok_weaker}
use Rattle.refusals.proofs.explanation.push_wide_at.Goals as goal

pub returns : goal.returns
returns g c =
    on_ok_weaker c.push_places.result (λ is. (_, c.in_ok-at_offset.ensures, (_, c.in_ok-globals.ensures, is))) c.push_places.ensures
