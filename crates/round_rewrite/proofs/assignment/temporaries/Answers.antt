use Rattle.std.proofs.Common.{◌≡◌, ◌∙◌, ap, ◌++◌, map, arith}
use Rattle.trees.specs.Trees.{name_of, names_of}
use Rattle.round_rewrite.specs.Table.{numbers}
use Rattle.round_rewrite.specs.Names.{drawn_name}
use Rattle.round_rewrite.proofs.PushLemmas.{put_is, pushed}
use Rattle.round_rewrite.proofs.assignment.temporaries.Goals as goal

pub loop-k-preserved : goal.loop-k-preserved
loop-k-preserved g c =
    let one = put_is name_of c.drawn.result _ _ _ c.in_ok-put_made.ensures c.drawn.ensures in
    ap names_of one.1
    ∙ pushed name_of drawn_name (names_of c.args.names.items) c.loop-k.list.items one.0 c.loop-k.k c.loop-k.invariant
    one.2

pub returns : goal.returns
returns g c =
    let low = c.loop-k-test.false in
    let high = c.loop-k.auto.k-end in
    c.loop-k.invariant ∙ ap (λ n. names_of c.args.names.items ++ map drawn_name (numbers 0 n))
    (let e : c.loop-k.k ≡ c.args.number = omega (arith, low, high) in e)
