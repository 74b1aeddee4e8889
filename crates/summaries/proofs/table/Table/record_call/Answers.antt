use Rattle.std.proofs.Common.{ℕ, List, ◌≡◌, ◌⊎◌, ◌++◌, ◌∷◌, [], Some, refl, sym, ap, ◌∙◌, subst}
use Rattle.std.proofs.lemmas.Result.{IfOk-weaker}
use Rattle.path_sets.specs.Triples.{Triple}
use Rattle.flow_graph.specs.Drawn.{called_procedure, entered_from}
use Rattle.flow_graph.specs.Flows.{entered_by}
use Rattle.flow_graph.specs.declared.exit.Exit.{Exit}
use Rattle.flow_graph.specs.declared.flow.Flow.TheVariants as flow
use Rattle.language.specs.Lists.{Member}
use Rattle.language.specs.Sequential.{caller}
use Rattle.flow_graph.specs.Numbers.{numbered_entry}
use Rattle.summaries.specs.declared.edge.CallKey.{CallKey}
use Rattle.summaries.specs.Chains.{chain_of}
use Rattle.summaries.specs.Calls.{sites_of, summaries_of}
use Rattle.indexmap.specs.IndexMap.{keys}
use Rattle.summaries.specs.Found.{path_edge, HasSite, IsIndexed, entry_mail, mails_in}
use Rattle.summaries.specs.Grows.{AddsTo, Grows, OfSome, IsBehind, triple_of}
use Rattle.summaries.proofs.CallLemmas.{asked_to, ask_step, ask_only, behind_reached, asked_site, taken_there}
use Rattle.summaries.proofs.CallLemmas.{stands_there, was_given, asked_indexed, asked_gave}
use Rattle.summaries.proofs.Eaches.{where_some, where_none}
use Rattle.summaries.proofs.TellLemmas.{answers_kept}
use Rattle.summaries.proofs.StepLemmas.{still_holds, all_reached}
use Rattle.summaries.proofs.WorkLemmas.{refused_worked, added_worked}
use Rattle.summaries.proofs.table.Table.record_call.Given as given
use Rattle.summaries.proofs.table.Table.record_call.Goals as goal

-- the key is the call
asked : (g : given.Over) (c : goal.After-resume_site g) →
    (c.new-key.result.callee ≡ called_procedure c.args.call.now)
    × (c.new-key.result.entered ≡ entered_from c.args.call.now c.args.values)
asked g c = (
  ap (λ (k : CallKey). k.callee) c.new-key.ensures ∙ c.callee.ensures,
  ap (λ (k : CallKey). k.entered) c.new-key.ensures ∙ c.entry.ensures,
)

-- the flow is a call of this procedure
enters : (g : given.Over) (c : goal.After-resume_site g) →
    entered_by (flow.Call c.args.call.now) c.args.values ≡ Some
    (c.new-key.result.callee, c.new-key.result.entered, c.args.call.now.back)
enters g c = λ i. Some (sym (asked g c).0 i, sym (asked g c).1 i, c.args.call.now.back)

-- it is kept that the call stands at the site
added : (g : given.Over) (c : goal.After-resume_site g) →
    sites_of c.add_site.new.self c.new-key.result ≡ sites_of c.args.self.now.found.calls c.new-key.result
    ++ (path_edge c.args.entry c.args.point c.args.values) ∷ []
added g c =
    c.in_ok-added.ensures.added
    ∙ ap (λ x. sites_of c.args.self.now.found.calls c.new-key.result ++ x ∷ []) c.new.ensures

-- what the call leaves, by its chain
abbrev told : (g : given.Over) → goal.After-resume_site g → List Exit
told g c = chain_of c.add_site.new.self.left.links.items c.in_ok-added.added.chain

-- so that is added behind the site
known : (g : given.Over) (c : goal.After-resume_site g) →
    let self = c.args.self.now in
    let site = path_edge c.args.entry c.args.point c.args.values in
    let es = g.S.PathSet.members self.edges in
    let ds = g.S.PathSet.members c.resume_site.new.self.edges.now in
    let known = summaries_of self.found.calls c.new-key.result in
    Grows
    (OfSome (IsBehind self.graph.now site) (told g c)) es ds self.found.pending.items
    c.resume_site.new.self.pending.now.items →
    Grows (OfSome (IsBehind self.graph.now site) known) es ds self.found.pending.items c.resume_site.new.self.pending.now.items
known g c =
    let self = c.args.self.now in
    subst (λ bs. Grows (OfSome (IsBehind self.graph.now (path_edge c.args.entry c.args.point c.args.values)) bs)
    (g.S.PathSet.members self.edges) (g.S.PathSet.members c.resume_site.new.self.edges.now) self.found.pending.items
    c.resume_site.new.self.pending.now.items) c.in_ok-added.ensures.chain

-- if it stood nowhere, its entry is not given
pub send_entry-requires : goal.send_entry-requires
send_entry-requires g c =
    let self = c.args.self.now in
    let f = self.found in
    let k = c.new-key.result in
    where_none (sites_of f.calls k) c.in_ok-added.added.had c.in_ok-added.ensures.none
    (λ none m.
    let owed = c.requires.holds.0.given k.callee (numbered_entry (caller self.procedure) k.entered)
    (was_given self.procedure f (keys c.add_site.new.self.by_key) k c.in_ok-added.added.at c.in_ok-added.ensures.keys
    (stands_there (keys c.add_site.new.self.by_key) k c.in_ok-added.added.at c.in_ok-added.ensures.at) c.requires.holds.0.indexed m) in
    none owed.1.0 owed.1.1)

-- what is kept by place
kept : (g : given.Over) (c : goal.After-resume_site g) → IsIndexed c.args.self.now.found →
    IsIndexed (asked_to c.args.self.now.graph.now c.args.self.now.procedure c.args.self.now.found c.send_entry.new.self c.add_site.new.self
    c.resume_site.new.self.pending.now)
kept g c =
    asked_indexed c.args.self.now.procedure c.args.self.now.found c.send_entry.new.self c.add_site.new.self
    c.resume_site.new.self.pending.now
    (c.new-key.result) c.in_ok-added.added.at c.in_ok-added.ensures.keys
    (stands_there (keys c.add_site.new.self.by_key) (c.new-key.result) c.in_ok-added.added.at c.in_ok-added.ensures.at)
    c.in_ok-added.added.had
    c.in_ok-send_entry.ensures.known c.in_ok-send_entry.ensures.new

-- its entry is given, now or before
gave : (g : given.Over) (c : goal.After-resume_site g) →
    let self = c.args.self.now in
    AddsTo (λ m. m ≡ entry_mail self.procedure (c.new-key.result)) (mails_in self.procedure self.found)
    (mails_in self.procedure
    (asked_to self.graph.now self.procedure self.found c.send_entry.new.self c.add_site.new.self c.resume_site.new.self.pending.now))
gave g c =
    let self = c.args.self.now in
    let f = self.found in
    let k = c.new-key.result in
    asked_gave self.procedure f c.send_entry.new.self c.add_site.new.self c.resume_site.new.self.pending.now k c.in_ok-added.added.at
    c.in_ok-added.ensures.keys (stands_there (keys c.add_site.new.self.by_key) k c.in_ok-added.added.at c.in_ok-added.ensures.at)
    c.in_ok-added.added.had c.in_ok-send_entry.ensures.known c.in_ok-send_entry.ensures.new
    c.requires.holds.0.indexed
    (where_some (sites_of f.calls k) c.in_ok-added.added.had c.in_ok-added.ensures.had
    (λ y m. c.requires.holds.1.asks k.callee k.entered y.entry y.point y.values m))

pub returns-in_err-added-clause-worked : goal.returns-in_err-added-clause-worked
returns-in_err-added-clause-worked g c =
    let self = c.args.self.now in
    refused_worked g.S.PathSet.members (λ t. t ≡ triple_of (path_edge c.args.entry c.args.point c.args.values)) _ self _
    (all_reached self.graph.now self.procedure self.found
    (asked_to self.graph.now self.procedure self.found self.found.outbox c.add_site.new.self self.found.pending)
    (g.S.PathSet.members self.edges) c.requires.holds.0
    (taken_there self.graph.now self.procedure self.found self.found.outbox c.add_site.new.self self.found.pending
    c.in_err-added.ensures.summaries))
    c.requires.within (record { graph = refl; procedure = refl; limit = refl }) refl c.from_residual.ensures.1

pub returns-in_err-send_entry-clause-worked : goal.returns-in_err-send_entry-clause-worked
returns-in_err-send_entry-clause-worked g c =
    let self = c.args.self.now in
    refused_worked g.S.PathSet.members (λ t. t ≡ triple_of (path_edge c.args.entry c.args.point c.args.values)) _ self _
    (all_reached self.graph.now self.procedure self.found
    (asked_to self.graph.now self.procedure self.found c.send_entry.new.self c.add_site.new.self self.found.pending)
    (g.S.PathSet.members self.edges) c.requires.holds.0
    (taken_there self.graph.now self.procedure self.found c.send_entry.new.self c.add_site.new.self self.found.pending
    c.in_ok-added.ensures.summaries))
    c.requires.within (record { graph = refl; procedure = refl; limit = refl }) refl c.from_residual-in_err-send_entry.ensures.1

pub returns-clause-worked : goal.returns-clause-worked
returns-clause-worked g c =
    let self = c.args.self.now in
    let f = self.found in
    let e = path_edge c.args.entry c.args.point c.args.values in
    let es = g.S.PathSet.members self.edges in
    let ds = g.S.PathSet.members c.resume_site.new.self.edges.now in
    let edges = ask_only self.graph.now self.procedure f c.send_entry.new.self c.add_site.new.self c.resume_site.new.self.pending.now
    c.in_ok-added.ensures.summaries es ds e
    c.new-key.result.callee c.new-key.result.entered c.args.call.now.back (flow.Call c.args.call.now)
    c.requires.holds.0 c.requires.edge c.requires.call (enters g c)
    (subst (λ bs. (t : Triple) → Member t ds →
    OfSome (IsBehind self.graph.now e) bs t ⊎ Member t es) c.in_ok-added.ensures.chain
    c.resume_site.ensures.adds.only) in
    added_worked g.S.PathSet.members _ (λ t. t ≡ triple_of e) c.resume_site.result self _ es _ _ c.resume_site.ensures.adds
    (g.met.S.PathSet.none_twice c.resume_site.new.self.edges.now) edges
    (λ t w. behind_reached self.graph.now self.procedure f c.send_entry.new.self c.add_site.new.self c.resume_site.new.self.pending.now
    c.in_ok-added.ensures.summaries es ds e
    c.new-key.result.callee c.new-key.result.entered c.args.call.now.back (flow.Call c.args.call.now)
    c.requires.holds.0 c.requires.edge c.requires.call (enters g c) t
    (subst (λ bs. OfSome (IsBehind self.graph.now e) bs t) c.in_ok-added.ensures.chain w))
    (IfOk-weaker c.resume_site.result _ _
    (λ _ grown.
    let step = ask_step self.graph.now self.procedure f c.send_entry.new.self c.add_site.new.self c.resume_site.new.self.pending.now
    c.in_ok-added.ensures.summaries es ds e
    c.new-key.result.callee c.new-key.result.entered c.args.call.now.back (flow.Call c.args.call.now)
    c.requires.holds.0 c.requires.edge c.requires.call (enters g c) (gave g c)
    (added g c)
    c.in_ok-added.ensures.others (known g c grown) (kept g c) in
    still_holds self.graph.now self.procedure f _ es ds step (λ t. t ≡ triple_of e) c.requires.holds)
    c.resume_site.ensures.adds.ok)
    (IfOk-weaker c.resume_site.result _ _
    (λ _ _. answers_kept self.procedure f (asked_to self.graph.now self.procedure f c.send_entry.new.self c.add_site.new.self
    c.resume_site.new.self.pending.now) _ c.send_entry.ensures.answered (gave g c))
    c.resume_site.ensures.adds.ok)
    (record { graph = refl; procedure = refl; limit = refl }) refl

pub returns-clause-asked : goal.returns-clause-asked
returns-clause-asked g c =
    let self = c.args.self.now in
    let e = path_edge c.args.entry c.args.point c.args.values in
    let found =
    asked_to self.graph.now self.procedure self.found c.send_entry.new.self c.add_site.new.self c.resume_site.new.self.pending.now in
    let es = g.S.PathSet.members self.edges in
    let ds = g.S.PathSet.members c.resume_site.new.self.edges.now in
    IfOk-weaker c.resume_site.result _ _
    (λ _ grown.
    subst (λ (t : ℕ × ℕ). HasSite found t.0 t.1 e) (λ i. ((asked g c).0 i, (asked g c).1 i))
    (asked_site self.graph.now self.procedure self.found c.send_entry.new.self c.add_site.new.self c.resume_site.new.self.pending.now
    c.in_ok-added.ensures.summaries es ds e
    c.new-key.result.callee c.new-key.result.entered c.args.call.now.back (flow.Call c.args.call.now)
    c.requires.holds.0 c.requires.edge c.requires.call (enters g c) (gave g c)
    (added g c) c.in_ok-added.ensures.others (known g c grown)))
    c.resume_site.ensures.adds.ok
