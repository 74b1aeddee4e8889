use Rattle.std.proofs.Common.{ap, refl, ◌∙◌, arith}
use Rattle.path_sets.specs.Batches.{masks_in, gathered_at}
use Rattle.path_sets.proofs.BatchLemmas.{one_more_masks, one_more_gathered}
use Rattle.path_sets.proofs.diagrams.newest.batch_with_room.Goals as goal

pub returns-clause-keep : goal.returns-clause-keep
returns-clause-keep g c =
    let old = c.args.batches.now.items in
    record {
      gathered = λ k.
          ap (λ bs. gathered_at bs k) c.in_ok-push.ensures.items ∙ one_more_gathered old c.in_ok-batch.batch k c.in_ok-batch.ensures;
      masks = λ diagrams.
          ap (masks_in diagrams) c.in_ok-push.ensures.items ∙ one_more_masks diagrams old c.in_ok-batch.batch c.in_ok-batch.ensures;
    }

pub returns-then-len-lt-BATCH_MAX-clause-keep : goal.returns-then-len-lt-BATCH_MAX-clause-keep
returns-then-len-lt-BATCH_MAX-clause-keep g c = record { gathered = λ k. refl; masks = λ diagrams. refl }

pub returns-in_err-batch-clause-keep : goal.returns-in_err-batch-clause-keep
returns-in_err-batch-clause-keep g c = record { gathered = λ k. refl; masks = λ diagrams. refl }

pub returns-in_err-push-clause-keep : goal.returns-in_err-push-clause-keep
returns-in_err-push-clause-keep g c = record {
  gathered = λ k. ap (λ bs. gathered_at bs k) c.in_err-push.ensures.items;
  masks = λ diagrams. ap (masks_in diagrams) c.in_err-push.ensures.items;
}

pub overflow_sub-result-2 : goal.overflow_sub-result-2
overflow_sub-result-2 g c = omega (arith, c.len-2.ensures, c.in_ok-push.ensures.len)
