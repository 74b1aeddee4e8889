-- The words are none, or the text begins with one of them.
use Rattle.hints.specs.Row.{begins_with}
use Rattle.hints.proofs.Rows.{among_none, among_some}
use Rattle.hints.proofs.choosing.begins_among.Goals as goal

pub returns-then-is_empty : goal.returns-then-is_empty
returns-then-is_empty c =
    among_none (begins_with c.args.text.now) c.args.words.now c.is_empty.result c.is_empty.ensures c.if-is_empty.true

pub returns-else-is_empty : goal.returns-else-is_empty
returns-else-is_empty c =
    among_some (begins_with c.args.text.now) c.args.words.now c.is_empty.result c.begins_with_one_of.result c.is_empty.ensures
    c.if-is_empty.false c.begins_with_one_of.ensures
