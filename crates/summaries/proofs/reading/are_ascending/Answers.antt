-- Pairs that are each less than the next ascend.
use Rattle.std.proofs.Common.{rules}
use Rattle.std.specs.Ordering.{is_lt}
use Rattle.std.proofs.lemmas.List.Sorted.{answers_always}
use Rattle.summaries.specs.declared.pair.Pair.{Pair}
use Rattle.summaries.proofs.SortedLemmas.{pair_cmp}
use Rattle.summaries.proofs.ReadingLemmas.{ascend_if_each_less}
use Rattle.summaries.proofs.reading.are_ascending.Goals as goal

pub returns : goal.returns
returns c =
    ascend_if_each_less c.args.pairs.now c.is_sorted_by.result
    (c.is_sorted_by.ensures.cases (λ (x y : Pair). is_lt (pair_cmp x y)) (answers_always _ _ _ (λ f a r f' q. search rules)))
