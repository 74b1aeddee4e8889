use Rattle.std.proofs.Common.{sym, subst}
use Rattle.flow_graph.specs.Asserted.{fails_at}
use Rattle.stack_sets.specs.Nodes.{nodes_in, by_number}
use Rattle.saturation.specs.Items.{Found, Extends}
use Rattle.saturation.specs.Leads.{HaveAll, IsReturn, OfSome, resting_in}
use Rattle.stack_sets.specs.Turns.{machine_by}
use Rattle.saturation.specs.Work.{finished_in, IsOut}
use Rattle.saturation.proofs.FollowLemmas.{extends_as, extends_then}
use Rattle.saturation.proofs.OutLemmas.{returned_out, gone_out, all_out, all_out_full}
use Rattle.saturation.proofs.working.leave_node.Goals as goal

pub returns-in_err-come_out-clause-only : goal.returns-in_err-come_out-clause-only
returns-in_err-come_out-clause-only g c =
    let machine = machine_by c.args.graphs.now c.args.asserts.now in
    let nodes = nodes_in c.args.sets.now in
    extends_as _ (IsOut machine (by_number nodes) c.args.top c.args.number)
    (returned_out machine nodes c.args.top c.args.number c.node-node.result.now c.node-node.ensures) _ _
    (subst
    (λ hs.
    Extends
    (OfSome (λ one. IsReturn machine (finished_in c.args.top) (resting_in one)) hs) c.args.items.now.keys c.come_out.new.items.keys)
    c.as_slice.ensures.value (c.in_err-come_out.ensures.only (fails_at c.args.asserts.now)))

pub returns-else-node-clause-only : goal.returns-else-node-clause-only
returns-else-node-clause-only g c =
    let machine = machine_by c.args.graphs.now c.args.asserts.now in
    let nodes = nodes_in c.args.sets.now in
    extends_as _ (IsOut machine (by_number nodes) c.args.top c.args.number)
    (returned_out machine nodes c.args.top c.args.number c.node-node.result.now c.node-node.ensures) _ _
    (subst
    (λ hs.
    Extends
    (OfSome (λ one. IsReturn machine (finished_in c.args.top) (resting_in one)) hs) c.args.items.now.keys c.come_out.new.items.keys)
    c.as_slice.ensures.value (c.in_ok-come_out.ensures.only (fails_at c.args.asserts.now)))

pub returns-else-node-clause-all : goal.returns-else-node-clause-all
returns-else-node-clause-all g c =
    let machine = machine_by c.args.graphs.now c.args.asserts.now in
    all_out_full machine (nodes_in c.args.sets.now) c.args.top c.args.number c.node-node.result.now c.node-node.ensures c.if-node.false
    c.come_out.new.items.keys
    (subst (λ hs. HaveAll (OfSome (λ one. IsReturn machine (finished_in c.args.top) (resting_in one)) hs) c.come_out.new.items.keys)
    c.as_slice.ensures.value (c.in_ok-come_out.ensures.all (fails_at c.args.asserts.now)))

pub returns-in_ok-reach-clause-all : goal.returns-in_ok-reach-clause-all
returns-in_ok-reach-clause-all g c =
    let machine = machine_by c.args.graphs.now c.args.asserts.now in
    all_out machine (nodes_in c.args.sets.now) c.args.top c.args.number c.node-node.result.now c.node-node.ensures
    c.come_out.new.items.keys c.reach.new.items.keys
    (subst (λ hs. HaveAll (OfSome (λ one. IsReturn machine (finished_in c.args.top) (resting_in one)) hs) c.come_out.new.items.keys)
    c.as_slice.ensures.value (c.in_ok-come_out.ensures.all (fails_at c.args.asserts.now)))
    c.in_ok-reach.ensures.grows (λ x is. (_, c.in_ok-reach.ensures.added, sym is))

pub returns-in_ok-reach-clause-only : goal.returns-in_ok-reach-clause-only
returns-in_ok-reach-clause-only g c =
    let machine = machine_by c.args.graphs.now c.args.asserts.now in
    let nodes = nodes_in c.args.sets.now in
    let Out : Found → Type 0 = IsOut machine (by_number nodes) c.args.top c.args.number in
    extends_then Out _ _ _
    (extends_as _ Out (returned_out machine nodes c.args.top c.args.number c.node-node.result.now c.node-node.ensures) _ _
    (subst
    (λ hs.
    Extends
    (OfSome (λ one. IsReturn machine (finished_in c.args.top) (resting_in one)) hs) c.args.items.now.keys c.come_out.new.items.keys)
    c.as_slice.ensures.value (c.in_ok-come_out.ensures.only (fails_at c.args.asserts.now))))
    (extends_as _ Out (gone_out machine nodes c.args.top c.args.number c.node-node.result.now c.node-node.ensures c.if-node.true) _ _
    c.in_ok-reach.ensures.grows)

pub returns-in_err-reach-clause-only : goal.returns-in_err-reach-clause-only
returns-in_err-reach-clause-only g c =
    let machine = machine_by c.args.graphs.now c.args.asserts.now in
    let nodes = nodes_in c.args.sets.now in
    let Out : Found → Type 0 = IsOut machine (by_number nodes) c.args.top c.args.number in
    extends_then Out _ _ _
    (extends_as _ Out (returned_out machine nodes c.args.top c.args.number c.node-node.result.now c.node-node.ensures) _ _
    (subst
    (λ hs.
    Extends
    (OfSome (λ one. IsReturn machine (finished_in c.args.top) (resting_in one)) hs) c.args.items.now.keys c.come_out.new.items.keys)
    c.as_slice.ensures.value (c.in_ok-come_out.ensures.only (fails_at c.args.asserts.now))))
    (extends_as _ Out (gone_out machine nodes c.args.top c.args.number c.node-node.result.now c.node-node.ensures c.if-node.true) _ _
    c.in_err-reach.ensures.grows)
