-- One event further: it may follow, and its Take is counted.
use Rattle.std.proofs.Common.{◌≡◌, ◌∙◌, ◌+◌, ◌∷◌, [], Some, sym, ap, refl, arith, slice_get, length}
use Rattle.std.proofs.lemmas.Bool.{false≢true}
use Rattle.std.proofs.lemmas.List.{length-take-le}
use Rattle.std.proofs.lemmas.Option.{slice_get-get_or, slice_get_within}
use Rattle.post_ledger.specs.History.{takes}
use Rattle.post_ledger.proofs.Histories.{takes_more, takes_so_far, each_more}
use Rattle.post_ledger.proofs.legality.legal.Goals as goal

pub with_take-taken-requires : goal.with_take-taken-requires
with_take-taken-requires g c = omega (arith, takes_so_far c.args.history.now c.loop-i.i, c.loop-i.invariant.0)

pub loop-i-preserved : goal.loop-i-preserved
loop-i-preserved g c =
    let e = c.index-history-i.result in
    let here : slice_get c.args.history.now c.loop-i.i ≡ Some e = slice_get-get_or c.args.history.now c.loop-i.i e c.loop-i-test.true
    ∙ ap Some (sym c.index-history-i.is) in (
      takes_more c.args.history.now c.loop-i.i e here ∙ ap (λ n. n + length (takes (e ∷ []))) c.loop-i.invariant.0
          ∙ sym c.with_take-taken.ensures,
      each_more c.args.history.now c.loop-i.i e here (c.if-not-may_follow.ensures.0 refl) c.loop-i.invariant.1,
    )

pub returns : goal.returns
returns g c = (
  λ yes i e there. c.loop-i.invariant.1 i e (let inside : _ = slice_get_within c.args.history.now i e there in omega arith) there,
  λ legal. refl,
)

pub loop-i-init : goal.loop-i-init
loop-i-init g c = (refl, λ j e less at. absurd (omega (arith, less)))

pub may_follow-requires-clause-counted : goal.may_follow-requires-clause-counted
may_follow-requires-clause-counted g c = c.loop-i.invariant.0

pub slice_bounds-may_follow-end : goal.slice_bounds-may_follow-end
slice_bounds-may_follow-end g c = sym (length-take-le c.loop-i.i c.args.history.now c.loop-i.auto.i-end)

pub returns-then-not-may_follow : goal.returns-then-not-may_follow
returns-then-not-may_follow g c =
    let e = c.index-history-i.result in
    let here : slice_get c.args.history.now c.loop-i.i ≡ Some e = slice_get-get_or c.args.history.now c.loop-i.i e c.loop-i-test.true
    ∙ ap Some (sym c.index-history-i.is) in
    (λ never. absurd (false≢true never), λ legal. c.if-not-may_follow.ensures.1 (legal c.loop-i.i e here))
