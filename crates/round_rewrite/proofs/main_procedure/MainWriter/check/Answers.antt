use Rattle.std.proofs.Common.{suc, refl, []}
use Rattle.language.specs.Tree.{equal, var, value, two, assume, one}
use Rattle.trees.specs.Trees.{name_of, names_of, items_of, all_before}
use Rattle.round_rewrite.specs.Table.{no_mark, check}
use Rattle.round_rewrite.specs.Names.{by_names, copy_name, save_name}
use Rattle.round_rewrite.proofs.AppendLemmas.{made}
use Rattle.round_rewrite.proofs.Mains.{each_more, each_end}
use Rattle.round_rewrite.proofs.main_procedure.MainWriter.check.Goals as goal

pub loop-x-preserved : goal.loop-x-preserved
loop-x-preserved g c =
    let last = c.args.self.now.rounds.last in
    let xs = c.args.self.now.globals.now in
    each_more name_of (λ ys. check (by_names []) last ys c.args.round)
    (λ y k. one no_mark (assume (value (two equal (var (save_name (suc c.args.round) y)) (var (copy_name c.args.round y))))) k)
    (λ y ys k. refl) xs c.loop-x.x-index c.x-item.result c.loop-x-test.true c.x-item.is
    c.loop-x.into.items c.push_made.new.into.items (made c.agrees.result _ _ no_mark _ c.in_ok-push_made.ensures c.agrees.ensures)
    (λ rest. all_before (items_of c.args.into.now.items) (check (by_names []) last (names_of xs) c.args.round rest)) c.loop-x.invariant

pub returns : goal.returns
returns g c =
    let last = c.args.self.now.rounds.last in
    let xs = c.args.self.now.globals.now in
    each_end name_of (λ ys. check (by_names []) last ys c.args.round) (λ k. refl) xs c.loop-x.x-index c.loop-x-test.false
    c.loop-x.into.items
    (λ rest. all_before (items_of c.args.into.now.items) (check (by_names []) last (names_of xs) c.args.round rest)) c.loop-x.invariant
