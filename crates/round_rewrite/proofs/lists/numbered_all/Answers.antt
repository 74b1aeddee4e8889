use Rattle.std.proofs.Common.{◌∙◌, ap, ◌++◌, ◌+◌, map, drop}
use Rattle.trees.specs.Trees.{name_of, names_of}
use Rattle.round_rewrite.specs.Names.{numbered_name}
use Rattle.round_rewrite.proofs.PushLemmas.{put_is, one_through, all_through}
use Rattle.round_rewrite.proofs.lists.numbered_all.Goals as goal

pub loop-x-preserved : goal.loop-x-preserved
loop-x-preserved g c =
    let numbered = numbered_name c.args.mark.now c.args.round in
    let one = put_is name_of c.numbered.result _ _ _ c.in_ok-put_made.ensures c.numbered.ensures in
    ap (λ l. names_of l ++ map numbered (names_of (drop (c.loop-x.x-index + 1) c.args.xs.now))) one.1
    ∙ one_through name_of numbered name_of c.loop-x.list.items one.0 c.args.xs.now c.loop-x.x-index
    c.x-item.result _ c.loop-x-test.true c.x-item.is one.2 c.loop-x.invariant

pub returns : goal.returns
returns g c =
    let numbered = numbered_name c.args.mark.now c.args.round in
    all_through name_of numbered name_of c.loop-x.list.items c.args.xs.now c.loop-x.x-index _ c.loop-x-test.false
    c.loop-x.invariant
