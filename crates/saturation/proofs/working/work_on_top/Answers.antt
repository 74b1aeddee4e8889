use Rattle.std.proofs.Common.{◌≡◌, rules}
use Rattle.flow_graph.specs.Asserted.{fails_at}
use Rattle.flow_graph.specs.Drawn.{graphs_of}
use Rattle.stack_sets.specs.Nodes.{nodes_in, by_number}
use Rattle.saturation.proofs.CallLemmas.{lists_top}
use Rattle.saturation.proofs.TopLemmas.{moves_only, calls_only, leaves_only, all_left, all_inside}
use Rattle.saturation.proofs.working.work_on_top.Goals as goal

pub returns-in_err-follow_moves-clause-only : goal.returns-in_err-follow_moves-clause-only
returns-in_err-follow_moves-clause-only g c =
    moves_only (graphs_of c.args.graphs.now) (fails_at c.args.asserts.now)
    (by_number (nodes_in c.args.sets.now)) c.args.calls.now c.args.top _ _
    (c.in_err-follow_moves.ensures.only (fails_at c.args.asserts.now))

pub returns-in_err-follow_call-clause-only : goal.returns-in_err-follow_call-clause-only
returns-in_err-follow_call-clause-only g c =
    calls_only (graphs_of c.args.graphs.now) (fails_at c.args.asserts.now)
    (by_number (nodes_in c.args.sets.now)) c.args.calls.now c.args.top _ _ _
    (c.in_ok-follow_moves.ensures.only (fails_at c.args.asserts.now)) (c.in_err-follow_call.ensures.only (fails_at c.args.asserts.now))

pub returns-else-top-eq-EXIT-clause-only : goal.returns-else-top-eq-EXIT-clause-only
returns-else-top-eq-EXIT-clause-only g c =
    calls_only (graphs_of c.args.graphs.now) (fails_at c.args.asserts.now)
    (by_number (nodes_in c.args.sets.now)) c.args.calls.now c.args.top _ _ _
    (c.in_ok-follow_moves.ensures.only (fails_at c.args.asserts.now)) (c.in_ok-follow_call.ensures.only (fails_at c.args.asserts.now))

pub returns-in_err-leave-clause-only : goal.returns-in_err-leave-clause-only
returns-in_err-leave-clause-only g c =
    let exit : c.args.top.frame.point ≡ 0 = search rules in
    leaves_only (graphs_of c.args.graphs.now) (fails_at c.args.asserts.now)
    (by_number (nodes_in c.args.sets.now)) c.args.calls.now c.args.top exit
    _ _ _ _ (c.in_ok-follow_moves.ensures.only (fails_at c.args.asserts.now))
    (c.in_ok-follow_call.ensures.only (fails_at c.args.asserts.now))
    c.in_err-leave.ensures.only

pub returns-in_ok-leave-clause-only : goal.returns-in_ok-leave-clause-only
returns-in_ok-leave-clause-only g c =
    let exit : c.args.top.frame.point ≡ 0 = search rules in
    leaves_only (graphs_of c.args.graphs.now) (fails_at c.args.asserts.now)
    (by_number (nodes_in c.args.sets.now)) c.args.calls.now c.args.top exit
    _ _ _ _ (c.in_ok-follow_moves.ensures.only (fails_at c.args.asserts.now))
    (c.in_ok-follow_call.ensures.only (fails_at c.args.asserts.now))
    c.in_ok-leave.ensures.only

pub returns-in_ok-leave-clause-all : goal.returns-in_ok-leave-clause-all
returns-in_ok-leave-clause-all g c = λ false_is.
    all_left (graphs_of c.args.graphs.now) (fails_at c.args.asserts.now) (by_number (nodes_in c.args.sets.now)) c.args.calls.now c.args.top
    c.follow_moves.new.items.keys c.follow_call.new.items.keys c.leave.new.items.keys
    (c.in_ok-follow_moves.ensures.all (fails_at c.args.asserts.now)) (c.in_ok-follow_call.ensures.only (fails_at c.args.asserts.now))
    (c.in_ok-follow_call.ensures.all (fails_at c.args.asserts.now)) c.in_ok-leave.ensures.only c.in_ok-leave.ensures.all

pub returns-else-top-eq-EXIT-clause-all : goal.returns-else-top-eq-EXIT-clause-all
returns-else-top-eq-EXIT-clause-all g c = λ false_is.
    all_inside (graphs_of c.args.graphs.now) (fails_at c.args.asserts.now)
    (by_number (nodes_in c.args.sets.now)) c.args.calls.now c.args.top
    (search rules) c.follow_moves.new.items.keys c.follow_call.new.items.keys
    (c.in_ok-follow_moves.ensures.all (fails_at c.args.asserts.now)) (c.in_ok-follow_call.ensures.only (fails_at c.args.asserts.now))
    (c.in_ok-follow_call.ensures.all (fails_at c.args.asserts.now))

pub returns-else-top-eq-EXIT-clause-listed : goal.returns-else-top-eq-EXIT-clause-listed
returns-else-top-eq-EXIT-clause-listed g c = λ false_is. lists_top c.args.calls.now c.args.top (λ entry over exit. outside exit)
  where
    outside : c.args.top.frame.point ≡ 0 → ⊥
    outside = search rules
