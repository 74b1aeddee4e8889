use Rattle.std.proofs.Common.{◌≡◌, Some, slice_get, sym, subst}
use Rattle.path_sets.proofs.diagrams.batches.fill.Goals as goal
use Rattle.path_sets.proofs.PlaceLemmas.{still_there}

pub loop-homes-preserved : goal.loop-homes-preserved
loop-homes-preserved g c = record {
  stay = λ i k is. subst (λ xs. slice_get xs i ≡ Some k) (sym c.in_ok-push.ensures.items)
      (still_there c.loop-homes.homes.items _ i k (c.loop-homes.invariant.stay i k is));
}
