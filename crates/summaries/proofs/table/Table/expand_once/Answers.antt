use Rattle.std.proofs.Common.{◌≡◌, Some, Result, Err, slice_get, inl, inr, refl, sym, ap, subst}
use Rattle.std.specs.Result.{OnOk}
use Rattle.std.proofs.lemmas.Result.{IfOk-weaker}
use Rattle.language.specs.Lists.{Member}
use Rattle.summaries.specs.declared.table.Table.{Table}
use Rattle.summaries.specs.declared.table_fault.TableFault.{TableFault}
use Rattle.summaries.specs.Found.{path_edge, IsExpanded}
use Rattle.summaries.specs.Grows.{IsNext, triple_of}
use Rattle.summaries.specs.Tables.{AddsEdges, HasAllNext, IsLess, Worked}
use Rattle.summaries.proofs.FrontierLemmas.{ok_err, fault_of}
use Rattle.path_sets.proofs.KeyLemmas.{found_is_in}
use Rattle.summaries.proofs.ExpandedLemmas.{led_eq, same_led, all_led, led_now, remembered_step, inserted_or}
use Rattle.summaries.proofs.FlowLemmas.{led_to, lead_only, lead_step, next_reached}
use Rattle.summaries.proofs.StepLemmas.{still_holds, worked_off, all_reached, taken_as}
use Rattle.summaries.proofs.PendingLemmas.{led_worked}
use Rattle.summaries.proofs.WorkLemmas.{added_worked, failed_worked, refused_worked}
use Rattle.summaries.proofs.table.Table.expand_once.Given.{Over}
use Rattle.summaries.proofs.table.Table.expand_once.Goals.{Start}
use Rattle.summaries.proofs.table.Table.expand_once.Goals as goal

pub returns-then-contains-clause-worked : goal.returns-then-contains-clause-worked
returns-then-contains-clause-worked g c =
    let self = c.args.self.now in
    let e = path_edge c.args.entry c.args.point c.args.values in
    let es = g.S.PathSet.members self.edges in
    let held = c.requires.holds in
    let there : Member c.in-Some.led self.found.expanded.keys =
    found_is_in led_eq same_led c.in-Some.led self.found.expanded.keys (sym c.if-contains.ensures) in
    let flow = c.args.flow.now in
    let here = c.requires.flow in
    let all = all_led self.graph.now es e c.in-Some.led flow here c.in-Some.ensures.some (held.1.led c.in-Some.led there) in record {
      holds = (
        held.0,
        worked_off self.graph.now self.procedure self.found es e.entry e.point e.values
            (led_worked self.graph.now self.procedure self.found es e c.requires.left flow here c.requires.no_call all)
            held.1,
      );
      edges = λ t m. held.0.edge t.entry t.point t.values m;
      within = c.requires.within;
      many = λ is. absurd (ok_err is);
      answers = refl;
      stays = record { graph = refl; procedure = refl; limit = refl };
      fault = refl;
    }

-- what is promised of a table
abbrev Promised : (g : Over) (c : Start g) → Result (Unit {0}) TableFault → Table g.row.G.Denot g.row.A.Denot g.row.S.Denot → Type 0
Promised g c answer new =
    Worked g.S.PathSet.members (λ t. ⊥) answer c.args.self.now new
    × OnOk answer (HasAllNext g.S.PathSet.members c.args.flow.now (path_edge c.args.entry c.args.point c.args.values) new)
    × OnOk answer (IsLess g.S.PathSet.members c.args.self.now new)

-- it holds if what the choices lead to was added
expanded : (g : Over) (c : Start g) (answer : Result (Unit {0}) TableFault) (new : Table g.row.G.Denot g.row.A.Denot g.row.S.Denot)
    → AddsEdges g.S.PathSet.members (IsNext c.args.flow.now (path_edge c.args.entry c.args.point c.args.values)) answer c.args.self.now new
    → Promised g c answer new
expanded g c answer new added =
    let old = c.args.self.now in
    let f = old.found in
    let e = path_edge c.args.entry c.args.point c.args.values in
    let flow = c.args.flow.now in
    let pending = new.found.pending in
    let es = g.S.PathSet.members old.edges in
    let ds = g.S.PathSet.members new.edges in
    let held = c.requires.holds in
    let here = c.requires.flow in
    let adds = added.adds in
    let last = record old { edges = new.edges; found = record f { pending = pending } } in
    subst (Promised g c answer) (sym added.rest) (
      added_worked g.S.PathSet.members (IsNext flow e) (λ t. ⊥) answer old last es _ _ adds (g.met.S.PathSet.none_twice new.edges)
          (lead_only old.graph.now old.procedure f pending es ds e flow held.0 c.requires.edge here adds.only)
          (next_reached old.graph.now old.procedure f pending es ds e flow held.0 c.requires.edge here)
          (IfOk-weaker answer _ _
          (λ _ grown.
          let step = lead_step old.graph.now old.procedure f pending es ds e flow held.0 c.requires.edge here
          (IsNext flow e) (λ t is. is) grown in
          let now = still_holds old.graph.now old.procedure f _ es ds step (λ t. t ≡ triple_of e) held in (
            now.0,
            worked_off old.graph.now old.procedure _ ds e.entry e.point e.values
                (led_worked old.graph.now old.procedure (led_to old.graph.now old.procedure f pending) ds e c.requires.left flow here
                c.requires.no_call grown.all)
                now.1,
          ))
          adds.ok)
          (IfOk-weaker answer _ _ (λ _ _. refl) adds.ok)
          (record { graph = refl; procedure = refl; limit = refl }) refl,
      IfOk-weaker answer _ _ (λ _ grown. grown.all) adds.ok,
      IfOk-weaker answer _ _ (λ _ grown. (grown.more, grown.longer)) adds.ok,
    )

pub returns-in_default-clause-worked : goal.returns-in_default-clause-worked
returns-in_default-clause-worked g c =
    (expanded g (goal.at.returns-in_default-clause-worked g c).Start c.reach_all.result c.reach_all.new.self c.reach_all.ensures).0

pub returns-clause-worked : goal.returns-clause-worked
returns-clause-worked g c =
    let start = (goal.at.returns-clause-worked g c).Start in
    let mid = c.reach_all-2.new.self in
    let f = mid.found in
    let e = path_edge c.args.entry c.args.point c.args.values in
    let h = record f { expanded = c.insert.new.self } in
    let es = g.S.PathSet.members mid.edges in
    let led_on = expanded g start _ mid c.in_ok-reach_all.ensures in
    let work = led_on.0 in
    let flow = c.args.flow.now in
    let here = subst (λ graph. slice_get graph.flows.items c.args.point ≡ Some flow) (sym work.stays.graph) c.requires.flow in
    let led = led_now mid.graph.now es e c.in-Some.led flow here c.in-Some.ensures.some led_on.1 in
    let step = remembered_step mid.graph.now mid.procedure f h es (λ x m.
    elim (inserted_or led_eq f.expanded.keys c.insert.new.self.keys c.in-Some.led x c.in_ok-insert.ensures.keys m) [
      | inl was ↦ inl was
      | inr is ↦ inr (subst (IsExpanded mid.graph.now es) (sym is) led)
    ]) in
    let held = still_holds mid.graph.now mid.procedure f h es es step (λ t. ⊥) work.holds in record {
      holds = held;
      edges = λ t m. held.0.edge t.entry t.point t.values m;
      within = work.within;
      many = λ is. absurd (ok_err is);
      answers = work.answers;
      stays = record { graph = work.stays.graph; procedure = work.stays.procedure; limit = work.stays.limit };
      fault = work.fault;
    }

pub returns-in_err-reach_all-clause-worked : goal.returns-in_err-reach_all-clause-worked
returns-in_err-reach_all-clause-worked g c =
    let start = (goal.at.returns-in_err-reach_all-clause-worked g c).Start in
    let told = c.from_residual.ensures.1 in
    let failed = (expanded g start _ c.reach_all-2.new.self c.in_err-reach_all.ensures).0 in
    failed_worked g.S.PathSet.members (λ t. ⊥) _ _ _ failed.edges failed.within failed.stays failed.fault _ told
    (λ is. failed.many (ap Err (sym (fault_of _ _ _ told is))))

pub returns-in_err-insert-clause-worked : goal.returns-in_err-insert-clause-worked
returns-in_err-insert-clause-worked g c =
    let start = (goal.at.returns-in_err-insert-clause-worked g c).Start in
    let mid = c.reach_all-2.new.self in
    let h = record mid.found { expanded = c.insert.new.self } in
    let work = (expanded g start _ mid c.in_ok-reach_all.ensures).0 in
    refused_worked g.S.PathSet.members (λ t. ⊥) _ _ _
    (all_reached mid.graph.now mid.procedure mid.found h (g.S.PathSet.members mid.edges) work.holds.0
    (taken_as mid.found h (λ a. refl) (λ k. refl)))
    work.within (record { graph = work.stays.graph; procedure = work.stays.procedure; limit = work.stays.limit }) work.fault
    c.from_residual-in_err-insert.ensures.1
