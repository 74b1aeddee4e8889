-- The words are none, or one of them is the word.
use Rattle.std.specs.Prelude.{bytes_eq}
use Rattle.hints.proofs.Rows.{among_none, among_some}
use Rattle.hints.proofs.choosing.admits.Goals as goal

pub returns-then-is_empty : goal.returns-then-is_empty
returns-then-is_empty c =
    among_none (λ w. bytes_eq c.args.word.now w) c.args.words.now c.is_empty.result c.is_empty.ensures c.if-is_empty.true

pub returns-else-is_empty : goal.returns-else-is_empty
returns-else-is_empty c =
    among_some (λ w. bytes_eq c.args.word.now w) c.args.words.now c.is_empty.result c.is_one_of.result c.is_empty.ensures
    c.if-is_empty.false c.is_one_of.ensures
