use Rattle.summaries.specs.Exits.{pair_at}
use Rattle.std.proofs.Common.{ℕ, ◌≡◌, ◌≤◌, length, nat_eq, Some, slice_get, sym, ap, ◌∙◌, subst, arith, Option, Result, Err}
use Rattle.language.specs.Lists.{Member}
use Rattle.flow_graph.specs.Numbers.{GraphReaches}
use Rattle.flow_graph.specs.Returns.{left_by}
use Rattle.flow_graph.specs.declared.flow.Flow.TheVariants.{Call}
use Rattle.groups.specs.Under.{under}
use Rattle.summaries.specs.Found.{pair, TookMessage, HasExit}
use Rattle.summaries.specs.Grows.{triple_of, IsFoundBy}
use Rattle.summaries.specs.declared.edge.PathEdge.{PathEdge}
use Rattle.summaries.specs.declared.table.Table.{Table}
use Rattle.summaries.specs.declared.table_fault.TableFault.{TableFault}
use Rattle.summaries.specs.Tables.{IsLessBeside, TookSame, Worked}
use Rattle.summaries.proofs.FrontierLemmas.{ok_err, fault_of, none_is_found}
use Rattle.summaries.proofs.table.Table.work.Given.{Over}
use Rattle.summaries.proofs.table.Table.work.Goals.{In_ok-record_if_exit, After-record_call}
use Rattle.summaries.proofs.PendingLemmas.{beyond_worked, called_worked}
use Rattle.summaries.proofs.StepLemmas.{worked_off, both_ok, all_reached, taken_as}
use Rattle.summaries.proofs.WorkLemmas.{failed_worked, refused_worked, then_worked}
use Rattle.summaries.proofs.AsideLemmas.{none_aside, none_found, nothing}
use Rattle.std.proofs.lemmas.Result.{IfOk-weaker}
use Rattle.summaries.proofs.table.Table.work.Goals as goal
use Rattle.path_sets.specs.EdgeLimits.{most_of}
use Rattle.path_sets.specs.Triples.{Triple}

pub returns-in_err-record_if_exit-clause-worked : goal.returns-in_err-record_if_exit-clause-worked
returns-in_err-record_if_exit-clause-worked g c =
    let old = c.args.self.now in
    let new = c.record_if_exit.new.self in
    let left = c.in_err-record_if_exit.ensures in
    let edges = ap (λ s. length (g.S.PathSet.members s)) left.edges in
    let limit = ap most_of left.stays.limit in
    refused_worked g.S.PathSet.members (IsFoundBy c.from_residual.result) _ old new
    (λ t m. subst (λ graph. GraphReaches graph (TookMessage new.found) t.entry t.point t.values) (sym left.stays.graph)
    (all_reached old.graph.now old.procedure old.found new.found (g.S.PathSet.members old.edges) c.requires.holds.0
    (taken_as old.found new.found (λ a. ap (λ e. under nat_eq e.by_key a) left.taken.0)
    (λ k. ap (λ left. left k) left.taken.1))
    t (subst (λ s. Member t (g.S.PathSet.members s)) left.edges m)))
    (omega (arith, edges, limit, c.requires.within)) left.stays left.fault c.from_residual.ensures.1

pub returns-then-point-points-clause-worked : goal.returns-then-point-points-clause-worked
returns-then-point-points-clause-worked g c =
    let old = c.args.self.now in
    let new = c.record_if_exit.new.self in
    let left = c.in_ok-record_if_exit.ensures in
    let e = c.args.edge in
    let es = g.S.PathSet.members new.edges in
    let past : length new.graph.now.flows.items ≤ e.point = omega (arith, c.if-point-points.true, c.points.ensures) in
    let edges = ap (λ s. length (g.S.PathSet.members s)) left.edges in
    let limit = ap most_of left.stays.limit in record {
      holds = (
        left.ok.0,
        none_aside new.graph.now new.procedure new.found es (IsFoundBy nothing)
            (worked_off new.graph.now new.procedure new.found es e.entry e.point e.values
            (beyond_worked new.graph.now new.procedure new.found es e left.left past) left.ok.1),
      );
      edges = λ t m. left.ok.0.edge t.entry t.point t.values m;
      within = omega (arith, edges, limit, c.requires.within);
      many = λ is. absurd (ok_err is);
      answers = left.answers;
      stays = left.stays;
      fault = left.fault;
    }

-- the work on a call, whatever is answered of it
called : (g : Over) (c : After-record_call g) →
    Worked g.S.PathSet.members (λ t. ⊥) c.record_call.result c.args.self.now c.record_call.new.self
called g c =
    let old = c.args.self.now in
    let new = c.record_if_exit.new.self in
    let last = c.record_call.new.self in
    let e = c.args.edge in
    let call = c.in-Call.call in
    let was = c.in_ok-record_if_exit.ensures in
    let asked = c.record_call.ensures.worked in
    let same = sym asked.stays.graph in
    let here = subst (λ graph. slice_get graph.flows.items e.point ≡ Some (Call call)) same (c.flow.ensures ∙ ap Some c.in-Call.is) in
    let leaves : e.point ≡ 0 → HasExit last.found e.entry (left_by last.graph.now e.values) =
    λ is. subst (λ graph. HasExit last.found e.entry (left_by graph e.values)) same
    (subst (λ x. (at : ℕ) × (pair_at x at ≡ Some (pair e.entry (left_by new.graph.now e.values)))) (sym c.record_call.ensures.exits)
    (was.left is)) in
    then_worked g.S.PathSet.members (λ t. t ≡ triple_of e) (λ t. ⊥) c.record_call.result old new last was.stays was.fault was.answers
    (both_ok c.record_call.result
    (λ holds site. (
      holds.0,
      worked_off last.graph.now last.procedure last.found (g.S.PathSet.members last.edges) e.entry e.point e.values
          (called_worked last.graph.now last.procedure last.found (g.S.PathSet.members last.edges) e leaves call here site) holds.1,
    ))
    asked.holds c.record_call.ensures.asked)
    asked

pub returns-in_ok-record_call-in-Call-clause-worked : goal.returns-in_ok-record_call-in-Call-clause-worked
returns-in_ok-record_call-in-Call-clause-worked g c =
    let after = (goal.at.returns-in_ok-record_call-in-Call-clause-worked g c).After-record_call in
    none_found g.S.PathSet.members _ _ _
    (subst (λ r. Worked g.S.PathSet.members (λ t. ⊥) r c.args.self.now c.record_call.new.self) c.in_ok-record_call-in-Call.was
    (called g after))

pub returns-in_err-record_call-in-Call-clause-worked : goal.returns-in_err-record_call-in-Call-clause-worked
returns-in_err-record_call-in-Call-clause-worked g c =
    let after = (goal.at.returns-in_err-record_call-in-Call-clause-worked g c).After-record_call in
    let told = c.from_residual-in_err-record_call-in-Call.ensures.1 in
    let failed = called g after in
    failed_worked g.S.PathSet.members _ _ _ _ failed.edges failed.within failed.stays failed.fault _ told
    (λ is. failed.many (c.in_err-record_call-in-Call.was ∙ ap Err (sym (fault_of _ _ _ told is))))

-- the rest of the work goes on from the exit that is recorded
rest : (g : Over) (c : In_ok-record_if_exit g) {T : Type 0} (Aside : Triple → Type 0) (r : Result T TableFault) (new : Table _ _ _)
    → Worked g.S.PathSet.members Aside r c.record_if_exit.new.self new → TookSame c.record_if_exit.new.self.found new.found
    → Worked g.S.PathSet.members Aside r c.args.self.now new × TookSame c.args.self.now.found new.found
rest g c Aside r new worked taken =
    let left = c.in_ok-record_if_exit.ensures in (
      then_worked g.S.PathSet.members Aside Aside r c.args.self.now c.record_if_exit.new.self new left.stays left.fault left.answers
          worked.holds worked,
      (taken.0 ∙ left.taken.0, taken.1 ∙ left.taken.1),
    )

-- that many edges are found and pending as before
less_of : (g : Over) (c : In_ok-record_if_exit g) (r : Result (Option PathEdge) TableFault) (new : Table _ _ _) →
    IsLessBeside g.S.PathSet.members r c.record_if_exit.new.self new → IsLessBeside g.S.PathSet.members r c.args.self.now new
less_of g c r new (more, longer) =
    let left = c.in_ok-record_if_exit.ensures in
    let waits = ap (λ v. length v.items) left.pending in
    let kept = ap (λ s. length (g.S.PathSet.members s)) left.edges in (omega (arith, waits, kept, more), omega (arith, kept, longer))

pub returns-in_ok-expand_once-in_default : goal.returns-in_ok-expand_once-in_default
returns-in_ok-expand_once-in_default g c =
    let before = (goal.at.returns-in_ok-expand_once-in_default g c).In_ok-record_if_exit in
    let last = c.in_ok-expand_once-in_default.ensures in
    let all = rest g before _ _ _ last.worked last.taken in
    record {
      worked = none_found g.S.PathSet.members _ _ _ all.0;
      there = λ t is. absurd (none_is_found t is);
      taken = all.1;
      less = less_of g before nothing c.expand_once.new.self last.less;
    }

pub returns-in_err-expand_once-in_default-clause-worked : goal.returns-in_err-expand_once-in_default-clause-worked
returns-in_err-expand_once-in_default-clause-worked g c =
    let before = (goal.at.returns-in_err-expand_once-in_default-clause-worked g c).In_ok-record_if_exit in
    let last = c.in_err-expand_once-in_default.ensures in
    let told = c.from_residual-in_err-expand_once-in_default.ensures.1 in
    let failed = (rest g before _ _ _ last.worked last.taken).0 in
    failed_worked g.S.PathSet.members _ _ _ _ failed.edges failed.within failed.stays failed.fault _ told
    (λ is. failed.many (ap Err (sym (fault_of _ _ _ told is))))

pub returns-in_err-expand_once-in_default-clause-taken : goal.returns-in_err-expand_once-in_default-clause-taken
returns-in_err-expand_once-in_default-clause-taken g c =
    let before = (goal.at.returns-in_err-expand_once-in_default-clause-taken g c).In_ok-record_if_exit in
    let last = c.in_err-expand_once-in_default.ensures in
    (rest g before _ _ _ last.worked last.taken).1

pub returns-in_default-2 : goal.returns-in_default-2
returns-in_default-2 g c =
    let before = (goal.at.returns-in_default-2 g c).In_ok-record_if_exit in
    let last = c.expand.ensures in
    let all = rest g before _ _ _ last.worked last.taken in
    record {
      worked = all.0;
      there = last.there;
      taken = all.1;
      less = IfOk-weaker c.expand.result _ _ (λ _. less_of g before c.expand.result c.expand.new.self) last.less;
    }
