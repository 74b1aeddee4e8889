use Rattle.std.proofs.Common.{refl}
use Rattle.syntax.specs.Exact.{insides}
use Rattle.syntax.proofs.Closings.{less_still, no_more}
use Rattle.syntax.proofs.reader.Reader.insides.Goals as goal

pub returns : goal.returns
unfolding insides
returns g c = record {
  gives = rw (c.in_ok-inside.ensures.gives, c.in_ok-locals.ensures.gives, c.in_ok-body.ensures.gives) refl;
  shorter = less_still (no_more c.in_ok-body.ensures.shorter c.in_ok-locals.ensures.no_longer) c.in_ok-inside.ensures.shorter;
}
