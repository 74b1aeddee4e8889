-- The words are those of the fault, and the place is its offset.
use Rattle.std.proofs.lemmas.Result.{on_ok_weaker}
use Rattle.refusals.proofs.explanation.located.Goals as goal

pub returns : goal.returns
returns g c =
    on_ok_weaker c.at_offset.result (λ is. (_, c.in_ok-words.ensures, is))
    (rw (c.offset.ensures, c.as_str.ensures.value) at c.at_offset.ensures)
