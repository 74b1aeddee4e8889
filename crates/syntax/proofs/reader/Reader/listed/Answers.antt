use Rattle.std.proofs.Common.{map}
use Rattle.syntax.specs.Exact.{list}
use Rattle.syntax.proofs.Closings.{closed_read}
use Rattle.syntax.proofs.reader.Reader.listed.Goals as goal

pub returns-clause-gives : goal.returns-clause-gives
returns-clause-gives g c =
    closed_read (λ v. map g.T.Written.tree v.items) (list g.T.Written.grammar) c.args.kind c.list.result c.closed.result
    c.args.tokens.now c.list.ensures.gives c.closed.ensures
