use Rattle.std.proofs.Common.{◌≡◌, nat_eq, Err, inl, inr, refl, sym, ap, ◌∙◌, subst}
use Rattle.language.specs.Lists.{Member}
use Rattle.path_sets.specs.Triples.{triple}
use Rattle.summaries.specs.Found.{TookDue}
use Rattle.groups.specs.Under.{under}
use Rattle.summaries.specs.Grows.{Grows}
use Rattle.summaries.proofs.EntryLemmas.{entered_also, enter_only, enter_step, start_reached, none_told, exits_placed, exits_told}
use Rattle.summaries.proofs.FrontierLemmas.{ok_err, fault_of}
use Rattle.summaries.proofs.Mails.{caller_known, caller_new}
use Rattle.summaries.proofs.TellLemmas.{answers_kept}
use Rattle.summaries.proofs.StepLemmas.{grown_to, still_holds, all_reached, taken_as, has_more}
use Rattle.summaries.proofs.WorkLemmas.{failed_worked, refused_worked}
use Rattle.summaries.proofs.table.Table.enter.Given.{Over}
use Rattle.summaries.proofs.table.Table.enter.Goals as goal
use Rattle.summaries.proofs.table.Table.enter.Goals.{After-add}
use Rattle.path_sets.specs.EdgeLimits.{most_of}

pub returns-then-contains-clause-worked : goal.returns-then-contains-clause-worked
returns-then-contains-clause-worked g c = record {
  holds = c.requires.holds;
  edges = λ t m. c.requires.holds.0.edge t.entry t.point t.values m;
  within = c.requires.within;
  many = λ is. absurd (ok_err is);
  answers = refl;
  stays = record { graph = refl; procedure = refl; limit = refl };
  fault = refl;
}

-- the caller has entered
pub returns-then-contains-clause-taken : goal.returns-then-contains-clause-taken
returns-then-contains-clause-taken g c = λ k. (
  λ h. inr h,
  λ w. elim w [
    | inl is ↦ subst (TookDue c.args.self.now.found) (sym is)
        (caller_known c.args.caller c.of.result.now (under nat_eq c.args.self.now.found.entries.by_key c.args.a)
        c.of.ensures c.contains.result c.contains.ensures.value c.if-contains.true)
    | inr was ↦ was
  ],
)

-- the caller has not entered yet
is_new : (g : Over) (c : After-add g) →
    Member c.args.caller (under nat_eq c.args.self.now.found.entries.by_key c.args.a) → ⊥
is_new g c =
    caller_new c.args.caller c.of.result.now (under nat_eq c.args.self.now.found.entries.by_key c.args.a)
    c.of.ensures c.contains.result c.contains.ensures.value c.if-contains.false

pub send_summaries-requires : goal.send_summaries-requires
send_summaries-requires g c =
    let self = c.args.self.now in
    none_told self.found c.args.a self.graph.now self.procedure
    (g.S.PathSet.members self.edges) c.requires.holds.0 c.args.caller (is_new g (goal.at.send_summaries-requires g c).After-add)

pub returns-in_err-add-clause-worked : goal.returns-in_err-add-clause-worked
returns-in_err-add-clause-worked g c =
    let self = c.args.self.now in
    let f = self.found in
    let h = grown_to self.graph.now self.procedure f c.add.new.self f.outbox f.pending in
    refused_worked g.S.PathSet.members (λ t. ⊥) _ self _
    (all_reached self.graph.now self.procedure f h (g.S.PathSet.members self.edges) c.requires.holds.0
    (taken_as f h c.in_err-add.ensures.err (λ k. refl)))
    c.requires.within (record { graph = refl; procedure = refl; limit = refl }) refl c.from_residual.ensures.1

pub returns-in_err-reach-clause-worked : goal.returns-in_err-reach-clause-worked
returns-in_err-reach-clause-worked g c =
    let self = c.args.self.now in
    let a = c.args.a in
    let es = g.S.PathSet.members self.edges in
    let ds = g.S.PathSet.members c.reach.new.self.edges.now in
    let edges = enter_only self.graph.now self.procedure self.found c.add.new.self self.found.outbox c.reach.new.self.pending.now a
    c.args.caller c.in_ok-add.ensures.added c.in_ok-add.ensures.others es ds c.requires.holds.0
    (λ t m. elim (c.in_err-reach.ensures.adds.only t m)
    [ inl is ↦ inl (is ∙ ap (λ n. triple a n a) c.start.ensures) | inr was ↦ inr was ]) in
    failed_worked g.S.PathSet.members (λ t. ⊥) _ self _ edges c.in_err-reach.ensures.adds.within
    (record { graph = refl; procedure = refl; limit = refl }) refl _ c.from_residual-in_err-reach.ensures.1
    (λ is.
    let (t, is_start, new, full) =
    c.in_err-reach.ensures.adds.limit (ap Err (sym (fault_of _ _ _ c.from_residual-in_err-reach.ensures.1 is))) in
    has_more (most_of self.limit) ds _ (g.met.S.PathSet.none_twice c.reach.new.self.edges.now) edges t
    (start_reached self.graph.now self.procedure self.found c.add.new.self self.found.outbox c.reach.new.self.pending.now a
    c.args.caller c.in_ok-add.ensures.added c.in_ok-add.ensures.others es ds c.requires.holds.0
    t (is_start ∙ ap (λ n. triple a n a) c.start.ensures))
    new full)

pub returns-in_err-send_summaries-clause-worked : goal.returns-in_err-send_summaries-clause-worked
returns-in_err-send_summaries-clause-worked g c =
    let self = c.args.self.now in
    let a = c.args.a in
    refused_worked g.S.PathSet.members (λ t. ⊥) _ self _
    (enter_only self.graph.now self.procedure self.found c.add.new.self c.send_summaries.new.outbox c.reach.new.self.pending.now a
    c.args.caller c.in_ok-add.ensures.added c.in_ok-add.ensures.others
    (g.S.PathSet.members self.edges) (g.S.PathSet.members c.reach.new.self.edges.now) c.requires.holds.0
    (λ t m. elim (c.in_ok-reach.ensures.adds.only t m) [ inl is ↦ inl (is ∙ ap (λ n. triple a n a) c.start.ensures) | inr was ↦ inr was ]))
    c.in_ok-reach.ensures.adds.within (record { graph = refl; procedure = refl; limit = refl }) refl
    c.from_residual-in_err-send_summaries.ensures.1

pub returns-clause-worked : goal.returns-clause-worked
returns-clause-worked g c =
    let self = c.args.self.now in
    let pending = c.reach.new.self.pending.now in
    let f = self.found in
    let a = c.args.a in
    let es = g.S.PathSet.members self.edges in
    let ds = g.S.PathSet.members c.reach.new.self.edges.now in
    let grown =
    subst (λ n. Grows (λ t. t ≡ triple a n a) es ds f.pending.items pending.items) c.start.ensures c.in_ok-reach.ensures.adds.ok in
    let told = c.in_ok-send_summaries.ensures.ok in
    let gave = exits_told f a self.procedure c.send_summaries.new.outbox c.args.caller told in
    let step = enter_step self.graph.now self.procedure f c.add.new.self c.send_summaries.new.outbox pending a
    c.args.caller c.in_ok-add.ensures.added c.in_ok-add.ensures.others es ds c.requires.holds.0
    (is_new g (goal.at.returns-clause-worked g c).After-add) grown
    (λ x old. exits_placed f a self.procedure c.send_summaries.new.outbox c.args.caller told old x)
    gave in record {
      holds =
          still_holds self.graph.now self.procedure f _ es ds step (λ t. ⊥) c.requires.holds;
      edges = enter_only self.graph.now self.procedure f c.add.new.self c.send_summaries.new.outbox pending a
          c.args.caller c.in_ok-add.ensures.added c.in_ok-add.ensures.others es ds c.requires.holds.0 grown.only;
      within = c.in_ok-reach.ensures.adds.within;
      many = λ is. absurd (ok_err is);
      answers =
          answers_kept self.procedure f (grown_to self.graph.now self.procedure f c.add.new.self c.send_summaries.new.outbox
          pending) _ c.in_ok-send_summaries.ensures.answered gave;
      stays = record { graph = refl; procedure = refl; limit = refl };
      fault = refl;
    }

pub returns-clause-taken : goal.returns-clause-taken
returns-clause-taken g c =
    let self = c.args.self.now in
    let pending = c.reach.new.self.pending.now in
    entered_also self.graph.now self.procedure self.found c.add.new.self c.send_summaries.new.outbox pending c.args.a c.args.caller
    c.in_ok-add.ensures.added c.in_ok-add.ensures.others

pub returns-in_err-reach-clause-only : goal.returns-in_err-reach-clause-only
returns-in_err-reach-clause-only g c = λ k.
    let self = c.args.self.now in
    let pending = c.reach.new.self.pending.now in
    (entered_also self.graph.now self.procedure self.found c.add.new.self self.found.outbox pending c.args.a c.args.caller
    c.in_ok-add.ensures.added c.in_ok-add.ensures.others k).0

pub returns-in_err-send_summaries-clause-only : goal.returns-in_err-send_summaries-clause-only
returns-in_err-send_summaries-clause-only g c = λ k.
    let self = c.args.self.now in
    let pending = c.reach.new.self.pending.now in
    (entered_also self.graph.now self.procedure self.found c.add.new.self c.send_summaries.new.outbox pending c.args.a c.args.caller
    c.in_ok-add.ensures.added c.in_ok-add.ensures.others k).0

pub returns-clause-only : goal.returns-clause-only
returns-clause-only g c = λ k. (returns-clause-taken g c k).0
