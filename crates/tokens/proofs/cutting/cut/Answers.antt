use Rattle.std.proofs.Common.{◌≡◌, length, ◌-◌, [], arith, sym, ap, subst, is_ok}
use Rattle.std.proofs.ResultArms.{chosen}
use Rattle.tokens.specs.Cuts.{here}
use Rattle.tokens.specs.Token.{toks_of}
use Rattle.tokens.proofs.Reached.{Reached, start, over_gap, pushed, at_end, all_cut, only_cut, token_shortens}
use Rattle.tokens.proofs.cutting.cut.Goals as goal

pub loop-rest-init : goal.loop-rest-init
loop-rest-init g c =
    let none : toks_of c.new-tokens.result.items ≡ [] = ap toks_of c.new-tokens.ensures.items in
    let front : 0 ≡ length c.args.text.now - length c.args.text.now = omega arith in (
      c.utf8.text,
      subst (λ ts. Reached c.args.text.now ts (length c.args.text.now - length c.args.text.now) c.args.text.now) (sym none)
          (subst (λ n. Reached c.args.text.now [] n c.args.text.now) front (start c.args.text.now c.requires.ascii)),
    )

pub loop-rest-preserved-in-Gap : goal.loop-rest-preserved-in-Gap
loop-rest-preserved-in-Gap g c =
    (c.range_from-rest.utf8, over_gap _ _ _ _ _ _ c.loop-rest.invariant.1 c.in-Gap.ensures.1 c.range_from-rest.ensures.value)

pub loop-rest-smaller : goal.loop-rest-smaller
loop-rest-smaller g c = token_shortens _ _ _ _ c.in-Word.ensures.1 c.range_from-rest-in-Word.ensures.value

pub loop-rest-preserved : goal.loop-rest-preserved
loop-rest-preserved g c =
    let grown = chosen _ _ _ _ c.push.ensures.items (ap is_ok c.in_ok-push-in-Word.was) in (
      c.range_from-rest-in-Word.utf8,
      pushed _ _ _ _ _ _ _ c.loop-rest.invariant.1 c.in-Word.ensures.1 c.range-word.ensures.value c.range_from-rest-in-Word.ensures.value
          grown,
    )

pub returns-in-Bad-clause-place : goal.returns-in-Bad-clause-place
returns-in-Bad-clause-place g c = c.loop-rest.invariant.1.bad _ (here c.in-Bad.ensures)

pub returns-clause-cuts : goal.returns-clause-cuts
returns-clause-cuts g c = all_cut _ _ _ (at_end _ _ _ _ c.loop-rest-test.ensures c.loop-rest.invariant.1)

pub returns-clause-only : goal.returns-clause-only
returns-clause-only g c = only_cut _ _ _ (at_end _ _ _ _ c.loop-rest-test.ensures c.loop-rest.invariant.1)
