use Rattle.std.proofs.Common.{◌≡◌, ◌⊎◌, ◌++◌, ◌∷◌, [], false, Some, slice_get, inr, refl, sym, ap, ◌∙◌, subst}
use Rattle.std.proofs.lemmas.Result.{IfOk-weaker}
use Rattle.indexmap.specs.IndexMap.{keys}
use Rattle.indexmap.specs.IndexSet.{insert_key}
use Rattle.language.specs.Lists.{Member}
use Rattle.path_sets.specs.Triples.{Triple}
use Rattle.summaries.specs.declared.edge.CallKey.{CallKey}
use Rattle.summaries.specs.declared.found.Found.{Found}
use Rattle.groups.specs.Under.{IsKeyAt}
use Rattle.summaries.specs.Calls.{call_eq, sites_of, summaries_of}
use Rattle.summaries.specs.Grows.{Grows, OfSome, IsBehind}
use Rattle.summaries.proofs.CallLemmas.{stands_there}
use Rattle.summaries.proofs.SummaryLemmas.{resumed_also, resume_only, resume_step, resumed_answers, resumed_reached}
use Rattle.summaries.proofs.StepLemmas.{still_holds, all_reached, taken_as}
use Rattle.summaries.proofs.WorkLemmas.{refused_worked, added_worked}
use Rattle.summaries.proofs.table.Table.resume.Given as given
use Rattle.summaries.proofs.table.Table.resume.Goals as goal

-- what the call has left is kept for it
added : (g : given.Over) (c : goal.After-resume_sites g) →
    summaries_of c.add_summary.new.self c.args.call ≡ summaries_of c.args.self.now.found.calls c.args.call ++ c.args.left ∷ []
added g c =
    let old = c.args.self.now.found.calls in
    subst (λ k. summaries_of c.add_summary.new.self k ≡ summaries_of old k ++ c.args.left ∷ []) c.new-key.ensures
    (c.in_ok-at.ensures.added ∙ ap (λ b. summaries_of old c.new-key.result ++ b ∷ []) c.new.ensures)

-- and for no other
others : (g : given.Over) (c : goal.After-resume_sites g) → (k : CallKey) → call_eq c.args.call k ≡ false →
    summaries_of c.add_summary.new.self k ≡ summaries_of c.args.self.now.found.calls k
others g c =
    subst (λ key. (k : CallKey) → call_eq key k ≡ false →
    summaries_of c.add_summary.new.self k ≡ summaries_of c.args.self.now.found.calls k) c.new-key.ensures
    c.in_ok-at.ensures.others

-- it is one of the calls
keyed : (g : given.Over) (c : goal.After-resume_sites g) →
    keys c.add_summary.new.self.by_key ≡ insert_key call_eq (keys c.args.self.now.found.calls.by_key) c.args.call
keyed g c =
    subst (λ k. keys c.add_summary.new.self.by_key ≡ insert_key call_eq (keys c.args.self.now.found.calls.by_key) k) c.new-key.ensures
    c.in_ok-at.ensures.keys

-- at this place
placed : (g : given.Over) (c : goal.After-resume_sites g) →
    IsKeyAt call_eq (keys c.add_summary.new.self.by_key) c.args.call c.in_ok-at.at
placed g c = subst (λ k. IsKeyAt call_eq (keys c.add_summary.new.self.by_key) k c.in_ok-at.at) c.new-key.ensures c.in_ok-at.ensures.at

here : (g : given.Over) (c : goal.After-resume_sites g) →
    slice_get (keys c.add_summary.new.self.by_key) c.in_ok-at.at ≡ Some c.args.call
here g c = stands_there (keys c.add_summary.new.self.by_key) c.args.call c.in_ok-at.at (placed g c)

-- the sites are those of the call
sites : (g : given.Over) (c : goal.After-resume_sites g) →
    c.sites_at.result.now ≡ sites_of c.args.self.now.found.calls c.args.call
sites g c = c.sites_at.ensures c.args.call (placed g c) ∙ ap (λ sites. sites c.args.call) c.in_ok-at.ensures.sites

pub returns-in_err-at-clause-worked : goal.returns-in_err-at-clause-worked
returns-in_err-at-clause-worked g c =
    let self = c.args.self.now in
    let f = self.found in
    let h : Found g.row.A.Denot = record f { calls = c.add_summary.new.self } in
    refused_worked g.S.PathSet.members (λ t. ⊥) _ self _
    (all_reached self.graph.now self.procedure f h (g.S.PathSet.members self.edges) c.requires.holds.0
    (taken_as f h (λ a. refl) (λ k. ap (λ left. left k) c.in_err-at.ensures.err)))
    c.requires.within (record { graph = refl; procedure = refl; limit = refl }) refl c.from_residual.ensures.1

pub returns-clause-worked : goal.returns-clause-worked
returns-clause-worked g c =
    let self = c.args.self.now in
    let f = self.found in
    let es = g.S.PathSet.members self.edges in
    let ds = g.S.PathSet.members c.resume_sites.new.self.edges.now in
    let pending = c.resume_sites.new.self.pending.now in
    let edges = resume_only self.graph.now self.procedure f c.add_summary.new.self pending c.args.call c.args.left
    (added g c) (others g c) es ds c.requires.holds.0
    (subst (λ ss. (t : Triple) → Member t ds → OfSome (λ y. IsBehind self.graph.now y c.args.left) ss t ⊎ Member t es)
    (sites g c) c.resume_sites.ensures.adds.only) in
    added_worked g.S.PathSet.members _ (λ t. ⊥) c.resume_sites.result self _ es _ _ c.resume_sites.ensures.adds
    (g.met.S.PathSet.none_twice c.resume_sites.new.self.edges.now) edges
    (λ t w. resumed_reached self.graph.now self.procedure f c.add_summary.new.self pending c.args.call c.args.left
    (added g c) (others g c) es ds c.requires.holds.0 t
    (subst (λ ss. OfSome (λ y. IsBehind self.graph.now y c.args.left) ss t) (sites g c) w))
    (IfOk-weaker c.resume_sites.result _ _
    (λ _ grown.
    let known = subst (λ ss. Grows (OfSome (λ y. IsBehind self.graph.now y c.args.left) ss) es ds f.pending.items pending.items)
    (sites g c) grown in
    let step = resume_step self.graph.now self.procedure f c.add_summary.new.self pending c.args.call c.args.left
    (added g c) (others g c) es ds c.requires.holds.0 c.in_ok-at.at c.in_ok-at.ensures.sites (keyed g c) (here g c) known in
    still_holds self.graph.now self.procedure f _ es ds step (λ t. ⊥) c.requires.holds)
    c.resume_sites.ensures.adds.ok)
    (IfOk-weaker c.resume_sites.result _ _
    (λ _ _. resumed_answers self.graph.now self.procedure f c.add_summary.new.self pending c.args.call c.args.left
    (added g c) (others g c) es ds c.requires.holds.0 c.in_ok-at.at c.in_ok-at.ensures.sites (keyed g c) (here g c))
    c.resume_sites.ensures.adds.ok)
    (record { graph = refl; procedure = refl; limit = refl }) refl

pub returns-clause-taken : goal.returns-clause-taken
returns-clause-taken g c =
    let self = c.args.self.now in
    let f = self.found in
    IfOk-weaker c.resume_sites.result _ _
    (λ _ _.
    resumed_also self.graph.now self.procedure f c.add_summary.new.self c.resume_sites.new.self.pending.now c.args.call c.args.left
    (added g c) (others g c))
    c.resume_sites.ensures.adds.ok

pub returns-in_err-at-clause-only : goal.returns-in_err-at-clause-only
returns-in_err-at-clause-only g c = λ k m.
    let f = c.args.self.now.found in
    let h : Found g.row.A.Denot = record f { calls = c.add_summary.new.self } in
    inr (taken_as h f (λ a. refl) (λ j. ap (λ left. left j) (sym c.in_err-at.ensures.err)) k m)

pub returns-clause-only : goal.returns-clause-only
returns-clause-only g c = λ k.
    let self = c.args.self.now in
    (resumed_also self.graph.now self.procedure self.found c.add_summary.new.self c.resume_sites.new.self.pending.now c.args.call
    c.args.left (added g c) (others g c) k).0
