use Rattle.std.proofs.Common.{IfOk, OnOk, IsTrue, subst, sym}
use Rattle.stack_sets.specs.Nodes.{nodes_in}
use Rattle.stack_sets.specs.Within.{AreWithin, IsWithin, found_in}
use Rattle.stack_sets.proofs.WithinLemmas.{with_none}
use Rattle.stack_sets.proofs.inclusions.Inclusions.is_kept_within.Goals as goal

pub is_within-requires : goal.is_within-requires
is_within-requires g c = record {
  known = subst (λ l. AreWithin l (found_in c.args.self.now))
      (sym
      (with_none
      (nodes_in c.args.sets.now) c.as_slice.result.now c.new-none.result.items c.as_slice.ensures.value c.new-none.ensures.items))
      c.requires.known;
}

pub returns-clause-known : goal.returns-clause-known
returns-clause-known g c =
    subst (λ l. OnOk c.is_within.result (AreWithin l (found_in c.is_within.new.self)))
    (with_none (nodes_in c.args.sets.now) c.as_slice.result.now c.new-none.result.items c.as_slice.ensures.value c.new-none.ensures.items)
    c.is_within.ensures.known

pub returns-clause-within : goal.returns-clause-within
returns-clause-within g c =
    subst (λ l. IfOk c.is_within.result (λ yes. IsTrue yes → IsWithin l c.args.pair.under c.args.pair.over))
    (with_none (nodes_in c.args.sets.now) c.as_slice.result.now c.new-none.result.items c.as_slice.ensures.value c.new-none.ensures.items)
    c.is_within.ensures.within
