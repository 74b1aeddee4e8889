use Rattle.trees.specs.Trees.{name_of}
use Rattle.syntax.specs.Exact.{name}
use Rattle.syntax.proofs.Closings.{closed_read, closed_shorter}
use Rattle.syntax.proofs.reader.Reader.name_before.Goals as goal

pub returns : goal.returns
returns g c = record {
  gives = closed_read name_of name c.args.kind c.read.result c.closed.result c.args.tokens.now c.read.ensures.gives c.closed.ensures;
  shorter = closed_shorter c.args.kind c.read.result c.closed.result c.args.tokens.now c.read.ensures.shorter c.closed.ensures;
}
