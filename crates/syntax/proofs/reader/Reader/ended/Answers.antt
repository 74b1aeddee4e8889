use Rattle.std.proofs.Common.{refl}
use Rattle.tokens.specs.declared.vocabulary.Kind.TheVariants as kind
use Rattle.trees.specs.Trees.{deed_of}
use Rattle.syntax.proofs.Closings.{closed_seen}
use Rattle.syntax.proofs.reader.Reader.ended.Goals as goal

pub returns-clause-gives : goal.returns-clause-gives
returns-clause-gives g c =
    closed_seen deed_of c.args.core kind.Semicolon c.closed.result c.args.tokens.now _ refl c.closed.ensures.0
