use Rattle.std.proofs.Common.{inl, inr}
use Rattle.stack_sets.proofs.WithinLemmas.{item_among}
use Rattle.stack_sets.proofs.inclusions.Inclusions.note_all.Goals as goal

pub loop-pair-preserved : goal.loop-pair-preserved
loop-pair-preserved g c p m = elim (c.in_ok-note.ensures p m) [
  | inl was ↦ c.loop-pair.invariant p was
  | inr same ↦
      inr (item_among c.as_slice-pair-items.result.now c.args.pairs.now.keys c.loop-pair.pair-index _ p c.as_slice-pair-items.ensures.keys
      c.loop-pair-test.true same)
]
