use Rattle.std.proofs.Common.{Ok, ap, subst}
use Rattle.turns.specs.Saturated.{First}
use Rattle.stack_sets.specs.Nodes.{nodes_in, by_number}
use Rattle.saturation.specs.Items.{Extends}
use Rattle.stack_sets.specs.Turns.{machine_by}
use Rattle.saturation.proofs.FollowLemmas.{have_more}
use Rattle.saturation.proofs.SaturationLemmas.{starts_found, fails_found, are_found, none_fails}
use Rattle.saturation.proofs.finding.find.Goals as goal

pub returns-then-branch-clause-fails : goal.returns-then-branch-clause-fails
returns-then-branch-clause-fails g c = λ none.
    let m = machine_by c.args.graphs.now c.args.asserts.now in
    let nodes = by_number (nodes_in c.args.sets.now) in
    let started = starts_found m nodes c.args.globals c.args.node c.start.new.items.keys
    (subst
    (λ l. Extends (First nodes c.args.globals c.args.node) l c.start.new.items.keys) c.new-items.ensures.empty
    c.in_ok-start.ensures.only) in
    fails_found m nodes c.args.globals c.args.node c.saturate.new.items.keys
    (c.in_ok-saturate.ensures.found c.args.globals c.args.node started) (c.in_ok-saturate.ensures.fails (ap Ok c.if-branch.true))

pub returns-clause-all : goal.returns-clause-all
returns-clause-all g c =
    let m = machine_by c.args.graphs.now c.args.asserts.now in
    let nodes = by_number (nodes_in c.args.sets.now) in
    let started = starts_found m nodes c.args.globals c.args.node c.start.new.items.keys
    (subst
    (λ l. Extends (First nodes c.args.globals c.args.node) l c.start.new.items.keys) c.new-items.ensures.empty
    c.in_ok-start.ensures.only) in
    are_found m nodes c.args.globals c.args.node c.saturate.new.items.keys
    (have_more (First nodes c.args.globals c.args.node) (λ x. Unit {0}) c.start.new.items.keys c.saturate.new.items.keys
    c.in_ok-saturate.ensures.stays c.in_ok-start.ensures.all)
    (c.in_ok-saturate.ensures.closed (ap Ok c.if-branch.false)) (c.in_ok-saturate.ensures.found c.args.globals c.args.node started)

pub returns-clause-passes : goal.returns-clause-passes
returns-clause-passes g c = λ some.
    let m = machine_by c.args.graphs.now c.args.asserts.now in
    let nodes = by_number (nodes_in c.args.sets.now) in
    let started = starts_found m nodes c.args.globals c.args.node c.start.new.items.keys
    (subst
    (λ l. Extends (First nodes c.args.globals c.args.node) l c.start.new.items.keys) c.new-items.ensures.empty
    c.in_ok-start.ensures.only) in
    none_fails m nodes c.args.globals c.args.node c.saturate.new.items.keys
    (have_more (First nodes c.args.globals c.args.node) (λ x. Unit {0}) c.start.new.items.keys c.saturate.new.items.keys
    c.in_ok-saturate.ensures.stays c.in_ok-start.ensures.all)
    (c.in_ok-saturate.ensures.closed (ap Ok c.if-branch.false)) (c.in_ok-saturate.ensures.found c.args.globals c.args.node started)
    (c.in_ok-saturate.ensures.passes (ap Ok c.if-branch.false))
