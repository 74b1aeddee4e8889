use Rattle.std.proofs.Common.{◌∙◌, ap, ◌++◌, ◌+◌, map, drop}
use Rattle.language.specs.Tree.{const, value}
use Rattle.trees.specs.Trees.{name_of, names_of, rhs_of, rhss_of}
use Rattle.round_rewrite.proofs.PushLemmas.{one_through, all_through}
use Rattle.round_rewrite.proofs.lists.constants.Goals as goal

pub loop-x-preserved : goal.loop-x-preserved
loop-x-preserved g c =
    ap (λ l. rhss_of l ++ map (λ w. value (const c.args.bit)) (names_of (drop (c.loop-x._x-index + 1) c.args.xs.now)))
    c.in_ok-put.ensures
    ∙ one_through rhs_of
    (λ w. value (const c.args.bit)) name_of c.loop-x.list.items _ c.args.xs.now c.loop-x._x-index c._x-item.result _ c.loop-x-test.true
    c._x-item.is c.constant.ensures c.loop-x.invariant

pub returns : goal.returns
returns g c =
    all_through rhs_of (λ w. value (const c.args.bit)) name_of c.loop-x.list.items c.args.xs.now c.loop-x._x-index _ c.loop-x-test.false
    c.loop-x.invariant
