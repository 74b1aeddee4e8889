use Rattle.std.proofs.Common.{sym, ◌∙◌, map}
use Rattle.tokens.specs.declared.vocabulary.Kind.TheVariants as kind
use Rattle.syntax.specs.Exact.{enclosed, perhaps}
use Rattle.syntax.proofs.Closings.{closed_read, none_read}
use Rattle.syntax.proofs.reader.Reader.enclosed.Goals as goal

pub returns-then-begins-clause-gives : goal.returns-then-begins-clause-gives
unfolding enclosed
returns-then-begins-clause-gives g c =
    rw c.in_ok-inside.ensures.gives
    (closed_read (λ v. map g.T.Written.tree v.items) (perhaps g.T.Written.grammar) kind.Close c.none.result c.closed.result
    c.in_ok-inside.inside.now
    (none_read g.T.Written.tree g.T.Written.grammar c.none.result c.in_ok-inside.inside.now
    (sym c.begins.ensures ∙ c.if-begins.true) c.none.ensures.ok c.none.ensures.err)
    c.closed.ensures)

pub returns-clause-gives : goal.returns-clause-gives
unfolding enclosed
returns-clause-gives g c =
    rw (c.in_ok-inside.ensures.gives, sym c.begins.ensures ∙ c.if-begins.false) c.listed.ensures.gives
