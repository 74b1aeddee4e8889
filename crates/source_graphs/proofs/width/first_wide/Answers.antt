-- The first that is too wide stands behind those that are not.
use Rattle.std.proofs.Common.{◌≡◌, ◌≤◌, ◌+◌, ◌∙◌, ap, sym, subst, refl, suc, arith, length, slice_get, take}
use Rattle.std.proofs.lemmas.List.{length-map, take_all}
use Rattle.std.specs.List.{AllByRecursion}
use Rattle.language.specs.Tree.{Procedure}
use Rattle.trees.specs.Trees.{proc_of, procs_of, tree_of}
use Rattle.resolved.specs.Limits.{most_places}
use Rattle.resolved.specs.Narrow.{width}
use Rattle.resolved.proofs.Counted.{proc_there}
use Rattle.source_graphs.proofs.Widths.{one_more}
use Rattle.source_graphs.proofs.width.first_wide.Goals as goal

pub loop-proc-preserved : goal.loop-proc-preserved
loop-proc-preserved g c =
    let t = tree_of c.args.program.now in
    let ss = c.deref-proc-items.result.now in
    let i = c.loop-proc.proc-index in
    let few : width t (proc_of c.proc-item.result) ≤ most_places = omega (arith, c.places-places.ensures, c.if-places.false) in
    let on : suc i ≡ i + 1 = omega arith in
    subst (λ k. AllByRecursion (λ (p : Procedure). width t p ≤ most_places) (take k (procs_of ss))) on
    (one_more (λ (p : Procedure). width t p ≤ most_places) ss i c.proc-item.result c.loop-proc-test.true c.proc-item.is
    c.loop-proc.invariant few)

pub returns-then-places : goal.returns-then-places
returns-then-places g c =
    let t = tree_of c.args.program.now in
    let ss = c.deref-proc-items.result.now in
    let i = c.loop-proc.proc-index in
    let s = c.proc-item.result in
    let large : most_places + 1 ≤ c.places-places.result = omega (arith, c.if-places.true) in (
      i,
      proc_of s,
      ap (λ items. slice_get (procs_of items) i) (sym c.deref-proc-items.ensures.value) ∙
          proc_there ss i s c.loop-proc-test.true c.proc-item.is,
      refl,
      c.places-places.ensures,
      omega (arith, large),
      subst (λ items. AllByRecursion (λ (p : Procedure). width t p ≤ most_places) (take i (procs_of items)))
          c.deref-proc-items.ensures.value c.loop-proc.invariant,
    )

pub returns : goal.returns
returns g c =
    let t = tree_of c.args.program.now in
    let ss = c.deref-proc-items.result.now in
    let count : length (procs_of ss) ≡ length ss = length-map ss proc_of in
    let all : take c.loop-proc.proc-index (procs_of ss) ≡ procs_of ss =
    take_all c.loop-proc.proc-index (procs_of ss) (omega (arith, count, c.loop-proc-test.false)) in
    subst (λ items. AllByRecursion (λ (p : Procedure). width t p ≤ most_places) (procs_of items)) c.deref-proc-items.ensures.value
    (subst (AllByRecursion (λ (p : Procedure). width t p ≤ most_places)) all c.loop-proc.invariant)
