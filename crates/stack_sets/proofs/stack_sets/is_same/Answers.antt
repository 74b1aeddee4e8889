use Rattle.std.proofs.Common.{◌∙◌, sym}
use Rattle.stack_sets.proofs.NodeLemmas.{same_flag, same_heads}
use Rattle.stack_sets.proofs.stack_sets.is_same.Goals as goal

pub returns-then-one-other : goal.returns-then-one-other
returns-then-one-other g c = λ is. (
  same_flag c.args.one.now.bare c.args.other.now.bare c.if-one-other.true,
  sym c.as_slice.ensures.value
      ∙ same_heads c.as_slice.result.now c.as_slice-then-one-other.result.now (sym c.eq.ensures ∙ is)
      ∙ c.as_slice-then-one-other.ensures.value,
)
