-- One more end is taken in.
use Rattle.std.proofs.Common.{◌≡◌, ◌+◌, ◌++◌, ◌<◌, ◌≤◌, ◌∷◌, [], get_or, take, length, suc, sym, ap, ◌∙◌, subst, arith, length-take-le}
use Rattle.std.proofs.lemmas.Option.{slice_get-get_or}
use Rattle.std.proofs.lemmas.List.{length-map, map-append, take_all}
use Rattle.post_ledger.proofs.Histories.{split_at_element}
use Rattle.gather.specs.Findings.{finding_end, ends_in}
use Rattle.gather.specs.Gathered.{IsLeastOf}
use Rattle.gather.proofs.Causes.{none_least}
use Rattle.gather.proofs.gathering.least.Goals as goal

pub loop-procedure-init : goal.loop-procedure-init
loop-procedure-init g c = none_least

pub loop-procedure-preserved : goal.loop-procedure-preserved
loop-procedure-preserved g c =
    let all = c.args.findings.now in
    let i = c.loop-procedure.procedure in
    let item = get_or all i c.index-findings-procedure.result in
    let within : i < length all = c.loop-procedure-test.true in
    let is = slice_get-get_or all i c.index-findings-procedure.result within in
    let (rest, whole, longer) = split_at_element all i item is in
    let one : i + 1 ≡ suc i = omega arith in
    let next : take (i + 1) all ≡ take i all ++ item ∷ [] = ap (λ n. take n all) one ∙ longer in
    let short : i ≤ length all = omega (arith, within) in
    let count : length (ends_in (take i all)) ≡ i = length-map (take i all) _ ∙ length-take-le i all short in
    subst (λ l. IsLeastOf l c.least_with-least.result)
    (sym (ap ends_in next ∙ map-append _ (take i all) (item ∷ [])))
    (subst (λ e. IsLeastOf (ends_in (take i all) ++ e ∷ []) c.least_with-least.result)
    (c.end.ensures ∙ ap finding_end c.index-findings-procedure.is)
    (c.least_with-least.ensures (ends_in (take i all)) count c.loop-procedure.invariant))

pub returns : goal.returns
returns g c = subst (λ l. IsLeastOf (ends_in l) c.loop-procedure.least)
    (take_all c.loop-procedure.procedure c.args.findings.now c.loop-procedure-test.false) c.loop-procedure.invariant
