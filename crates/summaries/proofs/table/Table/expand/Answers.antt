use Rattle.std.proofs.Common.{◌≡◌, Err, inl, inr, refl, sym, ap, ◌∙◌, subst, rules}
use Rattle.std.specs.Result.{OnOk}
use Rattle.std.proofs.lemmas.Result.{IfOk-weaker}
use Rattle.language.specs.Lists.{Member}
use Rattle.path_sets.specs.EdgeLimits.{most_of}
use Rattle.path_sets.specs.Triples.{Triple}
use Rattle.flow_graph.specs.Flows.{next_of}
use Rattle.summaries.specs.Calls.{summaries_of}
use Rattle.summaries.specs.Grows.{beside, triple_of, Adds, AddsOnly, IsAt, IsFoundBy, IsNext, IsOther}
use Rattle.summaries.specs.Tables.{Holds, IsLessBeside, Worked}
use Rattle.summaries.specs.declared.table.Table.{Table}
use Rattle.summaries.proofs.AsideLemmas.{found_grounded, found_saturated}
use Rattle.summaries.proofs.FlowLemmas.{led_to, lead_only, lead_step, next_reached}
use Rattle.summaries.proofs.FrontierLemmas.{adds_both, fault_of, first_or_other, is_some_next}
use Rattle.summaries.proofs.PendingLemmas.{led_worked}
use Rattle.summaries.proofs.StepLemmas.{both_ok, still_holds}
use Rattle.summaries.proofs.WorkLemmas.{added_worked}
use Rattle.summaries.proofs.table.Table.expand.Given.{Over}
use Rattle.summaries.proofs.table.Table.expand.Goals as goal
use Rattle.summaries.proofs.table.Table.expand.Goals.{Start}

-- a choice after the first is a choice
some_other : (g : Over) (c : Start g) (t : Triple) → IsOther c.args.flow.now c.args.edge t → IsNext c.args.flow.now c.args.edge t
some_other g c t other = is_some_next c.args.flow.now c.args.edge t (inr other)

pub returns-in_err-expand_others-clause-worked : goal.returns-in_err-expand_others-clause-worked
returns-in_err-expand_others-clause-worked g c =
    let start = (goal.at.returns-in_err-expand_others-clause-worked g c).Start in
    let old = c.args.self.now in
    let f = old.found in
    let e = c.args.edge in
    let flow = c.args.flow.now in
    let answer = c.from_residual.result in
    let failed = c.in_err-expand_others.ensures.adds in
    let mid = c.expand_others.new.self in
    let es = g.S.PathSet.members old.edges in
    let ds = g.S.PathSet.members mid.edges in
    let pending = mid.found.pending in
    let held = c.requires.holds in
    let here = c.requires.flow in
    let new = record old { edges = mid.edges; found = record f { pending = pending } } in
    let adds : Adds (IsOther flow e) answer (most_of old.limit) es ds f.pending.items pending.items = record {
      ok = search rules;
      only = failed.only;
      within = failed.within;
      limit = λ is. failed.limit (ap Err (sym (fault_of _ _ _ c.from_residual.ensures.1 is)));
    } in
    subst (Worked g.S.PathSet.members (IsFoundBy answer) answer old) (sym c.expand_others.ensures.rest)
    (added_worked g.S.PathSet.members (IsOther flow e) (IsFoundBy answer) answer old new es _ _ adds (g.met.S.PathSet.none_twice mid.edges)
    (lead_only old.graph.now old.procedure f pending es ds e flow held.0 c.requires.edge here
    (λ t m. elim (failed.only t m) [ inl o ↦ inl (some_other g start t o) | inr was ↦ inr was ]))
    (λ t o. next_reached old.graph.now old.procedure f pending es ds e flow held.0 c.requires.edge here t (some_other g start t o))
    (search rules) (search rules) (record { graph = refl; procedure = refl; limit = refl }) refl)

pub returns : goal.returns
returns g c =
    let start = (goal.at.returns g c).Start in
    let old = c.args.self.now in
    let mid = c.expand_others.new.self in
    let new = c.find_next.new.self in
    let f = old.found in
    let e = c.args.edge in
    let flow = c.args.flow.now in
    let answer = c.find_next.result in
    let others = c.in_ok-expand_others.ensures in
    let found = c.find_next.ensures in
    let es = g.S.PathSet.members old.edges in
    let ms = g.S.PathSet.members mid.edges in
    let ds = g.S.PathSet.members new.edges in
    let pending = mid.found.pending in
    let held = c.requires.holds in
    let here = c.requires.flow in
    let last = record old { edges = new.edges; found = record f { pending = pending } } in
    let limit : most_of mid.limit ≡ most_of old.limit = ap (λ t. most_of t.limit) others.rest in
    let first : Adds (IsAt e (next_of flow e.values 0)) answer (most_of old.limit) ms ds pending.items (beside answer pending.items) =
    subst (λ most. Adds (IsAt e (next_of flow e.values 0)) answer most ms ds pending.items (beside answer pending.items)) limit
    (subst (λ next. Adds (IsAt e next) answer (most_of mid.limit) ms ds pending.items (beside answer pending.items))
    c.choose-next.ensures.next found.adds) in
    let adds : Adds (IsNext flow e) answer (most_of old.limit) es ds f.pending.items (beside answer pending.items) =
    adds_both (IsOther flow e) (IsAt e (next_of flow e.values 0)) (IsNext flow e) answer (most_of old.limit) es ms ds
    f.pending.items pending.items (beside answer pending.items) others.adds.ok first
    (λ t is. elim (first_or_other flow e t is) [ inl at ↦ inr at | inr o ↦ inl o ])
    (λ t is. is_some_next flow e t (elim is [ inl o ↦ inr o | inr at ↦ inl at ])) in
    let step = lead_step old.graph.now old.procedure f pending es ms e flow held.0 c.requires.edge here (IsOther flow e)
    (some_other g start) others.adds.ok in
    let now = still_holds old.graph.now old.procedure f (led_to old.graph.now old.procedure f pending) es ms step (λ t. t ≡ triple_of e)
    held in
    let reached = lead_only old.graph.now old.procedure f pending es ds e flow held.0 c.requires.edge here adds.only in
    let holds : OnOk answer (Holds g.S.PathSet.members (IsFoundBy answer) last) =
    both_ok answer
    (λ (kept : (t : Triple) → Member t ms → Member t ds)
    (both : ((t : Triple) → IsNext flow e t → Member t ds) × AddsOnly (IsFoundBy answer) ms ds). (
      found_grounded old.graph.now old.procedure last.found ms ds kept reached now.0,
      found_saturated old.graph.now old.procedure last.found ms ds kept e
          (led_worked old.graph.now old.procedure last.found ds e c.requires.left flow here c.requires.no_call both.0)
          (IsFoundBy answer) both.1 now.1,
    ))
    (IfOk-weaker answer _ _ (λ _ grown. grown.kept) first.ok)
    (both_ok answer (λ grown only. (grown.all, only)) adds.ok found.found) in
    let rest : new ≡ last = found.rest ∙ ap (λ (t : Table _ _ _). record t { edges = new.edges }) others.rest in
    let worked = subst (Worked g.S.PathSet.members (IsFoundBy answer) answer old) (sym rest)
    (added_worked g.S.PathSet.members (IsNext flow e) (IsFoundBy answer) answer old last es _ _ adds (g.met.S.PathSet.none_twice new.edges)
    reached (next_reached old.graph.now old.procedure f pending es ds e flow held.0 c.requires.edge here) holds
    (IfOk-weaker answer _ _ (λ _ _. refl) adds.ok) (record { graph = refl; procedure = refl; limit = refl }) refl) in
    record {
      worked = worked;
      there = found.there;
      all = IfOk-weaker answer _ _ (λ _ grown. grown.all) adds.ok;
      taken = (ap (λ t. t.found.entries) rest, ap (λ t. summaries_of t.found.calls) rest);
      less = subst (λ (t : Table _ _ _). OnOk answer (IsLessBeside g.S.PathSet.members answer old t)) (sym rest)
          (IfOk-weaker answer _ _ (λ _ grown. (grown.more, grown.longer)) adds.ok);
    }
