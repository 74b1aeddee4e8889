use Rattle.std.proofs.Common.{◌≡◌, ◌≤◌, ℕ, suc, inl, inr, length, arith}
use Rattle.turns.specs.Between.{Threads}
use Rattle.turns.specs.declared.numbered_frame.NumberedFrame.{NumberedFrame}
use Rattle.stack_sets.specs.Nodes.{nodes_in}
use Rattle.exploration.specs.Moments.{ComesNext}
use Rattle.exploration.specs.Searched.{threads_by}
use Rattle.exploration.specs.Turns.{turns_in}
use Rattle.exploration.proofs.ComeLemmas.{alone_holds}
use Rattle.exploration.proofs.PassLemmas.{all_hold}
use Rattle.exploration.proofs.SearchLemmas.{threads_count}
use Rattle.exploration.proofs.searching.Search.run.Goals as goal

pub returns-then-self-len-clause-end : goal.returns-then-self-len-clause-end
returns-then-self-len-clause-end g c =
    let p : Threads ℕ NumberedFrame = threads_by c.args.source.now c.args.procedures.now in
    all_hold p (nodes_in c.loop-self.self.sets) (turns_in c.loop-self.self.turns) c.loop-self.self.tuples.keys c.loop-self.self.expanded
    c.loop-self.invariant.come.searched (omega (arith, c.if-self-len.true, c.len.ensures.len))

pub returns-then-moment-gt0-clause-end : goal.returns-then-moment-gt0-clause-end
returns-then-moment-gt0-clause-end g c =
    let p : Threads ℕ NumberedFrame = threads_by c.args.source.now c.args.procedures.now in
    let count : length p.stacks ≡ length c.args.procedures.now = threads_count c.args.source.now c.args.procedures.now in
    alone_holds p (omega arith) c.loop-self.moment.round (omega arith) c.loop-self.invariant.come.holds.0

next_soon : (n r i r' i' : ℕ) → ComesNext n r i r' i' → r' ≤ suc r
next_soon n r i r' i' (inl (less, same, to)) = omega (arith, same)
next_soon n r i r' i' (inr (all, same, to)) = omega (arith, same)

pub loop-self-preserved : goal.loop-self-preserved
loop-self-preserved g c =
    let all : c.expand_all.new.self.expanded ≡ length c.loop-self.self.tuples.keys = c.in-Ok-true.ensures.all c.in-Ok-true.field-0-test in
    let soon = next_soon (length c.args.procedures.now) c.loop-self.moment.round c.loop-self.moment.thread c.next-next.result.round
    c.next-next.result.thread c.next-next.ensures in record {
      come = c.in-Ok-true.ensures.come c.in-Ok-true.field-0-test;
      known = c.in-Ok-true.ensures.known c.in-Ok-true.field-0-test;
      room = omega (
        arith,
        all,
        soon,
        c.expand_all.ensures.work,
        c.loop-self.invariant.room,
        c.loop-self.invariant.come.searched.few,
        c.if-self-len.false,
        c.len.ensures.len,
      );
      work = omega (arith, c.expand_all.ensures.work, c.loop-self.invariant.work);
    }
