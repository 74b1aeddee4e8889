use Rattle.std.proofs.Common.{◌≡◌, inl, inr, Some, IfSome, get_or, sym, ◌∙◌, ap, subst, arith}
use Rattle.std.specs.Result.{result_ok}
use Rattle.language.specs.Lists.{Member}
use Rattle.stack_sets.specs.Nodes.{nodes_in}
use Rattle.exploration.specs.declared.tuple.Tuple.{Tuple}
use Rattle.exploration.specs.Met.{IsCovered, after_turn}
use Rattle.exploration.specs.Met.{Ending as AnEnding}
use Rattle.exploration.proofs.CoverLemmas.{covered_keep}
use Rattle.exploration.proofs.TupleLemmas.{adds_then, member_read, member_take, member_all}
use Rattle.exploration.proofs.tuple.meet_all.Goals as goal

pub returns-in_err-meet_after-clause-adds : goal.returns-in_err-meet_after-clause-adds
returns-in_err-meet_after-clause-adds g c =
    let some : c.after.result ≡ Some c.in_ok-met.met = c.ok_or.ensures.ok_part ∙ ap result_ok c.in_ok-met.was in
    let d : AnEnding = record { globals = 0; node = 0 } in
    let e : AnEnding = get_or c.args.endings.now c.loop-ending.ending-index d in
    let is : c.in_ok-met.met ≡ after_turn c.args.tuple.now c.args.next.thread e =
    subst (λ z. IfSome z (λ tuple. tuple ≡ after_turn c.args.tuple.now c.args.next.thread e)) some c.after.ensures in
    let P : Tuple → Type 0 = λ t. (e : AnEnding) × Member e c.args.endings.now × (t ≡ after_turn c.args.tuple.now c.args.next.thread e) in
    adds_then P (λ t. t ≡ c.in_ok-met.met) P c.args.tuples.now.keys c.loop-ending.tuples.keys c.meet_after.new.tuples.keys (λ t p. p)
    (λ t same. (e, member_read c.args.endings.now c.loop-ending.ending-index d c.loop-ending-test.true, same ∙ is))
    c.loop-ending.invariant.adds c.meet_after.ensures.adds

pub loop-ending-preserved : goal.loop-ending-preserved
loop-ending-preserved g c =
    let some : c.after.result ≡ Some c.in_ok-met.met = c.ok_or.ensures.ok_part ∙ ap result_ok c.in_ok-met.was in
    let d : AnEnding = record { globals = 0; node = 0 } in
    let e : AnEnding = get_or c.args.endings.now c.loop-ending.ending-index d in
    let is : c.in_ok-met.met ≡ after_turn c.args.tuple.now c.args.next.thread e =
    subst (λ z. IfSome z (λ tuple. tuple ≡ after_turn c.args.tuple.now c.args.next.thread e)) some c.after.ensures in
    let P : Tuple → Type 0 = λ t. (e : AnEnding) × Member e c.args.endings.now
    × (t ≡ after_turn c.args.tuple.now c.args.next.thread e) in record {
      within = c.loop-ending.invariant.within;
      known = c.in_ok-meet_after.ensures.known;
      covered = λ e' m. elim (member_take c.args.endings.now c.loop-ending.ending-index d e' c.loop-ending-test.true m) [
        | inl m ↦ covered_keep (nodes_in c.args.sets.now) (λ t. t ≡ c.in_ok-met.met) c.loop-ending.tuples.keys
            c.meet_after.new.tuples.keys c.meet_after.ensures.adds
            (after_turn c.args.tuple.now c.args.next.thread e') (c.loop-ending.invariant.covered e' m)
        | inr same ↦ subst (λ z. IsCovered (nodes_in c.args.sets.now) c.meet_after.new.tuples.keys z)
            (is ∙ ap (after_turn c.args.tuple.now c.args.next.thread) (sym same)) c.in_ok-meet_after.ensures.covered
      ];
      adds =
          adds_then P (λ t. t ≡ c.in_ok-met.met) P c.args.tuples.now.keys c.loop-ending.tuples.keys c.meet_after.new.tuples.keys (λ t p. p)
          (λ t same. (e, member_read c.args.endings.now c.loop-ending.ending-index d c.loop-ending-test.true, same ∙ is))
          c.loop-ending.invariant.adds c.meet_after.ensures.adds;
      work = omega (arith, c.meet_after.ensures.work, c.loop-ending.invariant.work);
    }

pub returns-clause-covered : goal.returns-clause-covered
returns-clause-covered g c = λ e m.
    c.loop-ending.invariant.covered e (member_all c.args.endings.now c.loop-ending.ending-index e c.loop-ending-test.false m)
