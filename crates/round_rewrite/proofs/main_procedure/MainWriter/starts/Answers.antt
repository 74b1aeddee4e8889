use Rattle.std.proofs.Common.{false, ◌∙◌, refl, []}
use Rattle.language.specs.Tree.{const, value, assign, call, one}
use Rattle.trees.specs.Trees.{simple, thread_of, threads_of, items_of, all_before}
use Rattle.round_rewrite.specs.Table.{no_mark, each, reset_targets, starts}
use Rattle.round_rewrite.specs.Names.{by_names}
use Rattle.round_rewrite.specs.Writing.{line_names}
use Rattle.round_rewrite.proofs.AppendLemmas.{laid, made}
use Rattle.round_rewrite.proofs.Mains.{each_more, each_end}
use Rattle.trees.proofs.Folds.{deed_of-Call}
use Rattle.round_rewrite.proofs.main_procedure.MainWriter.starts.Goals as goal

pub loop-thread-preserved : goal.loop-thread-preserved
loop-thread-preserved g c =
    let begun = made c.reset.result _ _ no_mark _ c.in_ok-push_made.ensures c.reset.ensures in
    let called = laid _ _ no_mark _ _ c.in_ok-push.ensures (deed_of-Call _ _ ∙
    (λ i. simple (call (c.in_ok-name.ensures i) (Rattle.trees.specs.Trees.exprs_of (c.new.ensures.items i))))) in
    each_more thread_of (λ ls. starts (by_names []) c.args.self.now.rounds.last (line_names ls))
    (λ y k.
    one no_mark
    (assign (reset_targets (by_names []) c.args.self.now.rounds.last)
    (each (value (const false)) (reset_targets (by_names []) c.args.self.now.rounds.last))) (one no_mark (call y.name []) k))
    (λ y ys k. refl) c.args.threads.now c.loop-thread.thread-index c.thread-item.result c.loop-thread-test.true c.thread-item.is
    c.loop-thread.into.items c.push.new.into.items (λ k. called k ∙ begun _)
    (λ rest. all_before (items_of c.args.into.now.items) (starts (by_names []) c.args.self.now.rounds.last
    (line_names (threads_of c.args.threads.now)) rest)) c.loop-thread.invariant

pub returns : goal.returns
returns g c =
    each_end thread_of (λ ls. starts (by_names []) c.args.self.now.rounds.last (line_names ls)) (λ k. refl) c.args.threads.now
    c.loop-thread.thread-index c.loop-thread-test.false c.loop-thread.into.items
    (λ rest. all_before (items_of c.args.into.now.items) (starts (by_names []) c.args.self.now.rounds.last
    (line_names (threads_of c.args.threads.now)) rest)) c.loop-thread.invariant
