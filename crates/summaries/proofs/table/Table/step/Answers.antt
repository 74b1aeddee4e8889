use Rattle.std.proofs.Common.{◌≡◌, ◌++◌, ◌∷◌, [], refl, sym, ◌∙◌}
use Rattle.std.proofs.lemmas.List.{append-nil}
use Rattle.summaries.proofs.StepLemmas.{grown_to, popped_grounded, popped_complete, popped_edge}
use Rattle.summaries.proofs.TableInvariants.{same_keeps}
use Rattle.summaries.proofs.table.Table.step.Goals as goal

pub returns-in_default-clause-keeps : goal.returns-in_default-clause-keeps
returns-in_default-clause-keeps g c =
    let self = c.args.self.now in
    let f = self.found in
    let h = grown_to self.graph.now self.procedure f f.entries f.outbox c.pop.new.self in
    same_keeps g.S.PathSet.members self h (λ at. refl) refl (sym (c.in_default.ensures.items ∙ append-nil c.pop.new.self.items))
    c.requires.table c.requires.fault

pub follow-worked-requires-clause-edge : goal.follow-worked-requires-clause-edge
follow-worked-requires-clause-edge g c =
    let self = c.args.self.now in
    let es = g.S.PathSet.members self.edges in
    let popped : self.found.pending.items ≡ c.pop.new.self.items ++ c.in-Some.edge ∷ [] = c.in-Some.ensures.items in
    popped_edge self.graph.now self.procedure self.found es c.pop.new.self c.in-Some.edge popped (c.requires.table.holds c.requires.fault).0

pub follow-worked-requires-clause-holds : goal.follow-worked-requires-clause-holds
follow-worked-requires-clause-holds g c =
    let self = c.args.self.now in
    let es = g.S.PathSet.members self.edges in
    let held = c.requires.table.holds c.requires.fault in
    let popped : self.found.pending.items ≡ c.pop.new.self.items ++ c.in-Some.edge ∷ [] = c.in-Some.ensures.items in (
      popped_grounded self.graph.now self.procedure self.found es c.pop.new.self c.in-Some.edge popped held.0,
      popped_complete self.graph.now self.procedure self.found es c.pop.new.self c.in-Some.edge popped held.1,
    )
