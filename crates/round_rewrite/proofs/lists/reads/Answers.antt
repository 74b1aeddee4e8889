use Rattle.std.proofs.Common.{◌∙◌, ap, ◌++◌, ◌+◌, map, drop}
use Rattle.language.specs.Tree.{var, value}
use Rattle.trees.specs.Trees.{name_of, names_of, rhs_of, rhss_of}
use Rattle.round_rewrite.specs.Names.{copy_name}
use Rattle.trees.proofs.Folds.{expr_of-Var}
use Rattle.round_rewrite.proofs.PushLemmas.{one_through, all_through}
use Rattle.round_rewrite.proofs.lists.reads.Goals as goal

pub loop-x-preserved : goal.loop-x-preserved
loop-x-preserved g c =
    ap
    (λ l. rhss_of l ++ map (λ y. value (var (copy_name c.args.round y))) (names_of (drop (c.loop-x.x-index + 1) c.args.xs.now)))
    c.in_ok-put.ensures
    ∙ one_through rhs_of
    (λ y. value (var (copy_name c.args.round y))) name_of c.loop-x.list.items _ c.args.xs.now c.loop-x.x-index c.x-item.result _
    c.loop-x-test.true c.x-item.is (ap value (expr_of-Var _ ∙ ap var c.in_ok-name.ensures)) c.loop-x.invariant

pub returns : goal.returns
returns g c =
    all_through rhs_of (λ y. value (var (copy_name c.args.round y))) name_of c.loop-x.list.items c.args.xs.now
    c.loop-x.x-index _ c.loop-x-test.false c.loop-x.invariant
