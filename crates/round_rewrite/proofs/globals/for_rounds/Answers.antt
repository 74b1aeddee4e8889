use Rattle.std.proofs.Common.{◌≡◌, ◌+◌, ◌∙◌, refl, ap, arith, [], ◌++◌}
use Rattle.trees.specs.Trees.{names_of}
use Rattle.round_rewrite.specs.Table.{numbers, copied}
use Rattle.round_rewrite.specs.Names.{by_names, numbered_name}
use Rattle.round_rewrite.proofs.CopyLemmas.{copied_next}
use Rattle.round_rewrite.proofs.globals.for_rounds.Goals as goal

pub loop-done-preserved : goal.loop-done-preserved
loop-done-preserved g c =
    λ last. copied_next (by_names []) last (numbered_name c.args.mark.now) (names_of c.args.xs.now) c.args.first c.loop-done.done
    (c.args.first + c.loop-done.done) (names_of c.args.into.items) (names_of c.loop-done.list.items) (names_of c.in_ok-list.list.items)
    refl (c.loop-done.invariant last) c.in_ok-list.ensures

pub returns : goal.returns
returns g c =
    let low = c.loop-done-test.false in
    let high = c.loop-done.auto.done-end in
    let whole : c.loop-done.done ≡ c.args.count = omega (arith, low, high) in
    λ last. c.loop-done.invariant last
    ∙ ap (λ n. names_of c.args.into.items ++ copied (by_names []) last (numbered_name c.args.mark.now) (names_of c.args.xs.now)
    (numbers c.args.first n)) whole
