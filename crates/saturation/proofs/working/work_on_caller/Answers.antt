use Rattle.std.proofs.Common.{refl, subst, OnOk}
use Rattle.flow_graph.specs.Asserted.{fails_at}
use Rattle.saturation.specs.Items.{Extends}
use Rattle.saturation.specs.Leads.{HaveAll, IsReturn, OfSome}
use Rattle.stack_sets.specs.Turns.{machine_by}
use Rattle.saturation.specs.Work.{resting_at}
use Rattle.saturation.proofs.FollowLemmas.{at_ok}
use Rattle.saturation.proofs.CallLemmas.{lists_caller}
use Rattle.saturation.proofs.working.work_on_caller.Goals as goal

pub returns-clause-all : goal.returns-clause-all
returns-clause-all g c =
    subst (λ all. OnOk c.return_of.result (HaveAll
    (OfSome (λ one. IsReturn (machine_by c.args.graphs.now c.args.asserts.now) one (resting_at c.args.caller)) all)
    c.return_of.new.items.keys))
    c.of.ensures (c.return_of.ensures.all (fails_at c.args.asserts.now))

pub returns-clause-only : goal.returns-clause-only
returns-clause-only g c =
    subst (λ all. Extends (OfSome (λ one. IsReturn (machine_by c.args.graphs.now c.args.asserts.now) one (resting_at c.args.caller)) all)
    c.args.items.now.keys c.return_of.new.items.keys) c.of.ensures (c.return_of.ensures.only (fails_at c.args.asserts.now))

pub returns-clause-listed : goal.returns-clause-listed
returns-clause-listed g c =
    at_ok c.return_of.result
    (lists_caller c.args.calls.now _ c.args.caller c.in_ok-add.ensures.added c.in_ok-add.ensures.others (λ k. refl))
