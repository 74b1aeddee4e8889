use Rattle.std.proofs.Common.{true, refl}
use Rattle.std.proofs.lemmas.Option.{slice_get_read}
use Rattle.naming.proofs.named.bare_at.Goals as goal

pub returns : goal.returns
returns g c = (
  c.index_mut.result.now,
  record { bare = true; heads = c.index_mut.result.now.heads },
  slice_get_read _ _ c.args.index c.index_mut.result.now refl c.requires c.index_mut.ensures.value,
  refl,
  refl,
  refl,
)
