use Rattle.std.proofs.Common.{◌∙◌, ap, ◌++◌, ◌+◌, drop}
use Rattle.trees.specs.Trees.{name_of, names_of}
use Rattle.round_rewrite.proofs.PushLemmas.{put_is, one_seen, all_seen}
use Rattle.round_rewrite.proofs.lists.clone_names.Goals as goal

pub loop-x-preserved : goal.loop-x-preserved
loop-x-preserved g c =
    let one = put_is name_of c.clone_name.result _ _ _ c.in_ok-put_made.ensures c.clone_name.ensures in
    ap (λ l. names_of l ++ names_of (drop (c.loop-x.x-index + 1) c.args.xs.now)) one.1
    ∙ one_seen name_of name_of c.loop-x.list.items one.0 c.args.xs.now c.loop-x.x-index
    c.x-item.result _ c.loop-x-test.true c.x-item.is one.2 c.loop-x.invariant

pub returns : goal.returns
returns g c =
    all_seen name_of name_of c.loop-x.list.items c.args.xs.now c.loop-x.x-index _ c.loop-x-test.false
    c.loop-x.invariant
