use Rattle.std.proofs.Common.{sym, subst}
use Rattle.turns.specs.Saturated.{First}
use Rattle.stack_sets.specs.Nodes.{nodes_in, by_number}
use Rattle.saturation.specs.Items.{Found, Extends}
use Rattle.saturation.specs.Leads.{HaveAll, OfSome}
use Rattle.saturation.specs.Starts.{IsStart}
use Rattle.saturation.proofs.FollowLemmas.{extends_as, extends_then}
use Rattle.saturation.proofs.StartLemmas.{head_starts, gone_starts, all_start, all_start_full}
use Rattle.saturation.proofs.starting.start.Goals as goal

pub returns-in_err-start_heads-clause-only : goal.returns-in_err-start_heads-clause-only
returns-in_err-start_heads-clause-only g c =
    let nodes = nodes_in c.args.sets.now in
    extends_as _ (First (by_number nodes) c.args.globals c.args.number)
    (head_starts nodes c.args.globals c.args.number c.node-node.result.now c.node-node.ensures) _ _
    (subst (λ hs. Extends (OfSome (IsStart c.args.globals) hs) c.args.items.now.keys c.start_heads.new.items.keys)
    c.as_slice.ensures.value c.in_err-start_heads.ensures.only)

pub returns-else-node-clause-only : goal.returns-else-node-clause-only
returns-else-node-clause-only g c =
    let nodes = nodes_in c.args.sets.now in
    extends_as _ (First (by_number nodes) c.args.globals c.args.number)
    (head_starts nodes c.args.globals c.args.number c.node-node.result.now c.node-node.ensures) _ _
    (subst (λ hs. Extends (OfSome (IsStart c.args.globals) hs) c.args.items.now.keys c.start_heads.new.items.keys)
    c.as_slice.ensures.value c.in_ok-start_heads.ensures.only)

pub returns-else-node-clause-all : goal.returns-else-node-clause-all
returns-else-node-clause-all g c =
    all_start_full (nodes_in c.args.sets.now) c.args.globals c.args.number c.node-node.result.now c.node-node.ensures c.if-node.false
    c.start_heads.new.items.keys
    (subst (λ hs. HaveAll (OfSome (IsStart c.args.globals) hs) c.start_heads.new.items.keys) c.as_slice.ensures.value
    c.in_ok-start_heads.ensures.all)

pub returns-in_ok-reach-clause-all : goal.returns-in_ok-reach-clause-all
returns-in_ok-reach-clause-all g c =
    all_start (nodes_in c.args.sets.now) c.args.globals c.args.number c.node-node.result.now c.node-node.ensures
    c.start_heads.new.items.keys c.reach.new.items.keys
    (subst (λ hs. HaveAll (OfSome (IsStart c.args.globals) hs) c.start_heads.new.items.keys) c.as_slice.ensures.value
    c.in_ok-start_heads.ensures.all)
    c.in_ok-reach.ensures.grows (λ x is. (_, c.in_ok-reach.ensures.added, sym is))

pub returns-in_ok-reach-clause-only : goal.returns-in_ok-reach-clause-only
returns-in_ok-reach-clause-only g c =
    let nodes = nodes_in c.args.sets.now in
    let Starts : Found → Type 0 = First (by_number nodes) c.args.globals c.args.number in
    extends_then Starts _ _ _
    (extends_as _ Starts (head_starts nodes c.args.globals c.args.number c.node-node.result.now c.node-node.ensures) _ _
    (subst (λ hs. Extends (OfSome (IsStart c.args.globals) hs) c.args.items.now.keys c.start_heads.new.items.keys)
    c.as_slice.ensures.value c.in_ok-start_heads.ensures.only))
    (extends_as _ Starts (gone_starts nodes c.args.globals c.args.number c.node-node.result.now c.node-node.ensures c.if-node.true) _ _
    c.in_ok-reach.ensures.grows)

pub returns-in_err-reach-clause-only : goal.returns-in_err-reach-clause-only
returns-in_err-reach-clause-only g c =
    let nodes = nodes_in c.args.sets.now in
    let Starts : Found → Type 0 = First (by_number nodes) c.args.globals c.args.number in
    extends_then Starts _ _ _
    (extends_as _ Starts (head_starts nodes c.args.globals c.args.number c.node-node.result.now c.node-node.ensures) _ _
    (subst (λ hs. Extends (OfSome (IsStart c.args.globals) hs) c.args.items.now.keys c.start_heads.new.items.keys)
    c.as_slice.ensures.value c.in_ok-start_heads.ensures.only))
    (extends_as _ Starts (gone_starts nodes c.args.globals c.args.number c.node-node.result.now c.node-node.ensures c.if-node.true) _ _
    c.in_err-reach.ensures.grows)
