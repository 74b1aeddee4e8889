use Rattle.tokens.specs.declared.vocabulary.Kind.TheVariants as kind
use Rattle.trees.specs.Trees.{rhs_of}
use Rattle.syntax.specs.Exact.{closed, condition, right}
use Rattle.syntax.proofs.Closings.{closed_read, closed_shorter, shorter_behind}
use Rattle.syntax.proofs.reader.Reader.test.Goals as goal

pub returns : goal.returns
unfolding condition
returns g c =
    let ts = c.in_ok-inside.inside.now in
    record {
      gives = rw c.in_ok-inside.ensures.gives
          (closed_read rhs_of (closed kind.Close right) c.args.kind c.closed-side.result c.closed.result ts
          (closed_read rhs_of right kind.Close c.read.result c.closed-side.result ts c.read.ensures.gives c.closed-side.ensures)
          c.closed.ensures);
      shorter = shorter_behind c.closed.result ts c.args.tokens.now c.in_ok-inside.ensures.shorter
          (closed_shorter c.args.kind c.closed-side.result c.closed.result ts
          (closed_shorter kind.Close c.read.result c.closed-side.result ts c.read.ensures.shorter c.closed-side.ensures) c.closed.ensures);
    }
