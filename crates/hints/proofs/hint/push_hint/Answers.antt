-- The tokens are those of the text before the place.
use Rattle.hints.proofs.Adding.{added}
use Rattle.hints.proofs.hint.push_hint.Goals as goal

pub returns-in-Ok-Some : goal.returns-in-Ok-Some
returns-in-Ok-Some g c =
    added c.push_after.result c.args.text.now c.front_of.result.now c.rest_of.result.now _ _ _ c.in-Ok-Some.tokens.items
    c.front_of.ensures c.rest_of.ensures (rw c.in-Ok-Some.field-0-is at c.in-Ok-Some.ensures)
    (rw c.as_slice.ensures.value at c.push_after.ensures)
