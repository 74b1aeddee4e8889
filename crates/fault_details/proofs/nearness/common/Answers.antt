-- The letters that were passed are the same in both words.
use Rattle.std.proofs.Common.{arith}
use Rattle.fault_details.proofs.Words.{ended, other_ended, other_letter, same_letter}
use Rattle.fault_details.proofs.nearness.common.Goals as goal

pub loop-same-preserved : goal.loop-same-preserved
loop-same-preserved c =
    let more = same_letter c.args.word.now c.args.other.now c.loop-same.same (omega arith) (omega arith) c.if-word-same.true in
    record {
      value = omega (arith, more, c.loop-same.invariant.value);
      first = omega arith;
      second = omega arith;
    }

pub returns-else-word-same-clause-value : goal.returns-else-word-same-clause-value
returns-else-word-same-clause-value c =
    let none = other_letter c.args.word.now c.args.other.now c.loop-same.same (omega arith) (omega arith) c.if-word-same.false in
    omega (arith, none, c.loop-same.invariant.value)

pub returns-else-same-other-clause-value : goal.returns-else-same-other-clause-value
returns-else-same-other-clause-value c =
    let none = other_ended c.args.word.now c.args.other.now c.loop-same.same (omega arith) in
    omega (arith, none, c.loop-same.invariant.value)

pub returns-after-loop-same-clause-value : goal.returns-after-loop-same-clause-value
returns-after-loop-same-clause-value c =
    let none = ended c.args.word.now c.args.other.now c.loop-same.same (omega arith) in
    omega (arith, none, c.loop-same.invariant.value)
