use Rattle.std.proofs.Common.{refl}
use Rattle.std.proofs.lemmas.Option.{slice_get_read}
use Rattle.naming.proofs.named.put_on.Goals as goal

pub returns : goal.returns
returns g c = (
  c.index_mut.result.now,
  record { bare = c.index_mut.result.now.bare; heads = c.push.new.self },
  slice_get_read _ _ c.args.index c.index_mut.result.now refl c.requires c.index_mut.ensures.value,
  refl,
  refl,
  c.in_ok-push.ensures.items,
)
