use Rattle.std.proofs.Common.{refl, subst, OnOk}
use Rattle.flow_graph.specs.Asserted.{fails_at}
use Rattle.saturation.specs.Items.{Extends}
use Rattle.saturation.specs.Leads.{HaveAll, IsReturn, OfSome}
use Rattle.stack_sets.specs.Turns.{machine_by}
use Rattle.saturation.specs.Work.{finished_in}
use Rattle.saturation.proofs.FollowLemmas.{at_ok}
use Rattle.saturation.proofs.CallLemmas.{lists_finished}
use Rattle.saturation.proofs.working.leave_call.Goals as goal

pub returns-clause-all : goal.returns-clause-all
returns-clause-all g c =
    subst (λ all. OnOk c.return_to.result (HaveAll
    (OfSome (IsReturn (machine_by c.args.graphs.now c.args.asserts.now) (finished_in c.args.top)) all) c.return_to.new.items.keys))
    c.of.ensures (c.return_to.ensures.all (fails_at c.args.asserts.now))

pub returns-clause-only : goal.returns-clause-only
returns-clause-only g c =
    subst (λ all. Extends (OfSome (IsReturn (machine_by c.args.graphs.now c.args.asserts.now) (finished_in c.args.top)) all)
    c.args.items.now.keys c.return_to.new.items.keys) c.of.ensures (c.return_to.ensures.only (fails_at c.args.asserts.now))

pub returns-clause-listed : goal.returns-clause-listed
returns-clause-listed g c =
    at_ok c.return_to.result (lists_finished c.args.calls.now _ c.args.top c.args.entry c.requires.over c.requires.exit
    c.in_ok-add.ensures.added c.in_ok-add.ensures.others (λ k. refl))
