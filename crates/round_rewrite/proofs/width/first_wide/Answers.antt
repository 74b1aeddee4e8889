use Rattle.std.proofs.Common.{◌≡◌, ◌≤◌, ◌+◌, ◌∙◌, suc, ap, sym, subst, refl, arith, length, slice_get, take}
use Rattle.std.proofs.lemmas.List.{length-map, take_all}
use Rattle.trees.specs.Trees.{name_of, names_of, proc_of, procs_of, tree_of}
use Rattle.resolved.specs.Limits.{most_places}
use Rattle.round_rewrite.specs.Narrow.{AreNarrow, rewritten_width}
use Rattle.round_rewrite.specs.Places.{global_count}
use Rattle.round_rewrite.proofs.Widths.{rewritten_places, narrow_more}
use Rattle.resolved.proofs.Counted.{proc_there}
use Rattle.round_rewrite.proofs.width.first_wide.Given as given
use Rattle.round_rewrite.proofs.width.first_wide.Goals as goal
use Rattle.round_rewrite.proofs.width.first_wide.Goals.{After-places-places}

-- the places that were counted are those of the procedure
counted : (g : given.Over) (c : After-places-places g) →
    c.places-places.result ≡ rewritten_width c.args.rounds.last (tree_of c.args.program.now) (proc_of c.proc-item.result)
counted g c =
    let t = tree_of c.args.program.now in
    let last = c.args.rounds.last in
    let len : length (names_of c.args.program.now.globals.items) ≡ length c.as_slice-globals.result.now =
    length-map c.args.program.now.globals.items name_of ∙ ap length (sym c.as_slice-globals.ensures.value) in
    c.places-places.ensures ∙ sym (rewritten_places t last (global_count (length c.as_slice-globals.result.now) last)
    (ap (λ m. global_count m last) len) (proc_of c.proc-item.result))

pub loop-proc-preserved : goal.loop-proc-preserved
loop-proc-preserved g c =
    let t = tree_of c.args.program.now in
    let last = c.args.rounds.last in
    let ss = c.deref-proc-items.result.now in
    let i = c.loop-proc.proc-index in
    let same = counted g (goal.at.loop-proc-preserved g c).After-places-places in
    let few : rewritten_width last t (proc_of c.proc-item.result) ≤ most_places = omega (arith, same, c.if-places.false) in
    let on : suc i ≡ i + 1 = omega arith in
    subst (λ k. AreNarrow last t (take k (procs_of ss))) on
    (narrow_more t last _ refl ss i c.proc-item.result c.loop-proc-test.true c.proc-item.is c.loop-proc.invariant few)

pub returns-then-places : goal.returns-then-places
returns-then-places g c =
    let ss = c.deref-proc-items.result.now in
    let i = c.loop-proc.proc-index in
    let s = c.proc-item.result in
    let large : most_places + 1 ≤ c.places-places.result = omega (arith, c.if-places.true) in (
      i,
      proc_of s,
      ap (λ items. slice_get (procs_of items) i) (sym c.deref-proc-items.ensures.value) ∙
          proc_there ss i s c.loop-proc-test.true c.proc-item.is,
      refl,
      counted g (goal.at.returns-then-places g c).After-places-places,
      omega (arith, large),
      subst (λ items. AreNarrow c.args.rounds.last (tree_of c.args.program.now) (take i (procs_of items))) c.deref-proc-items.ensures.value
          c.loop-proc.invariant,
    )

pub returns : goal.returns
returns g c =
    let t = tree_of c.args.program.now in
    let last = c.args.rounds.last in
    let ss = c.deref-proc-items.result.now in
    let end = c.loop-proc-test.false in
    let count : length (procs_of ss) ≡ length ss = length-map ss proc_of in
    let all : take c.loop-proc.proc-index (procs_of ss) ≡ procs_of ss =
    take_all c.loop-proc.proc-index (procs_of ss) (omega (arith, count, end)) in
    subst (λ items. AreNarrow last t (procs_of items)) c.deref-proc-items.ensures.value
    (subst (AreNarrow last t) all c.loop-proc.invariant)
