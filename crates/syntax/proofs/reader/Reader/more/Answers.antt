use Rattle.syntax.proofs.Exits.{none_added, refused_is_well}
use Rattle.syntax.proofs.reader.Reader.more.Goals as goal

pub returns : goal.returns
returns g c = record {
  gives = (c.in_ok-next.next, c.in_ok-put.ensures.ok, c.in_ok-next.ensures.gives);
  shorter = c.in_ok-next.ensures.shorter;
}

pub returns-in_err-next : goal.returns-in_err-next
returns-in_err-next g c = record {
  gives =
      none_added g.T.Written.tree c.from_residual.result _ g.T.Written.grammar c.args.tokens.now _ _ c.from_residual.ensures.1
      c.in_err-next.ensures.gives;
  shorter = refused_is_well _ c.from_residual.result _ c.from_residual.ensures.1;
}
