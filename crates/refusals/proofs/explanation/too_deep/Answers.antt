-- The message is about the token that was found.
use Rattle.std.proofs.lemmas.Result.{on_ok_weaker}
use Rattle.refusals.proofs.explanation.too_deep.Goals as goal

pub returns-in-Ok-Some : goal.returns-in-Ok-Some
returns-in-Ok-Some g c =
    on_ok_weaker c.push_depth.result (λ is. (_, (rw c.in-Ok-Some.field-0-is at c.in-Ok-Some.ensures), is)) c.push_depth.ensures

pub returns-in-Ok-None : goal.returns-in-Ok-None
returns-in-Ok-None g c =
    on_ok_weaker c.push_about.result (λ is. (_, (rw c.in-Ok-None.field-0-is at c.in-Ok-None.ensures), is)) c.push_about.ensures
