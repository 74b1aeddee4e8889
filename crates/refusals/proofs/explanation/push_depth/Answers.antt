-- The words and the hint are those of the kind.
use Rattle.std.proofs.lemmas.Result.{on_ok_weaker}
use Rattle.refusals.proofs.explanation.push_depth.Goals as goal

pub returns : goal.returns
returns g c =
    rw (← c.depth_words.ensures, ← c.depth_hint.ensures)
    (on_ok_weaker c.push.result (λ is. (_, c.in_ok-at_offset.ensures, is)) c.push.ensures)
