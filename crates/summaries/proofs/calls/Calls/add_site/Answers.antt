use Rattle.std.proofs.Common.{◌≡◌, ◌≤◌, ◌++◌, ◌∷◌, [], List, Option, Some, length, sym, ap, ◌∙◌, subst, arith, rules}
use Rattle.flow_graph.specs.declared.exit.Exit.{Exit}
use Rattle.path_sets.proofs.InsertsLemmas.{at_error}
use Rattle.indexmap.specs.IndexMap.{get}
use Rattle.indexmap.specs.Entry.{entry_value}
use Rattle.summaries.specs.declared.calls.KnownCall.{KnownCall}
use Rattle.summaries.specs.Calls.{sites_of}
use Rattle.summaries.specs.Chains.{chain_of}
use Rattle.summaries.specs.KnownCalls.{call_eq, sites_if_any, chain_if_any}
use Rattle.summaries.specs.contracts.edge.CallKeyEq.TheImpl.Laws.{laws-law}
use Rattle.summaries.proofs.ChainLemmas.{within_after}
use Rattle.groups.proofs.GroupLemmas.{added_after, all_after, if_empty, keys_after, others_after, place_after}
use Rattle.summaries.proofs.calls.Calls.add_site.Given.{Over}
use Rattle.summaries.proofs.calls.Calls.add_site.Goals as goal
use Rattle.summaries.proofs.calls.Calls.add_site.Goals.{After-add}

-- what was known of the call
was : (g : Over) (c : After-add g) → Some c.into_mut-known.result.now ≡ get call_eq c.args.self.now.by_key c.args.key
was g c = sym c.into_mut-known.ensures.value ∙ sym (ap entry_value c.in-Occupied.is) ∙ c.in_ok-entry.ensures.value

-- each chain is one of links
pub invariant_of-self-in-Occupied : goal.invariant_of-self-in-Occupied
invariant_of-self-in-Occupied g c =
    let calls = c.args.self.now in
    let n = length calls.left.links.items in
    record {
      within = within_after calls.by_key.entries _ c.args.key (record c.into_mut-known.result.now { sites = c.add.new.self })
          (search rules) n n calls.within (omega arith)
          (subst (λ o. chain_if_any o ≤ n) (sym (was g (goal.at.invariant_of-self-in-Occupied g c).After-add)) (calls.within c.args.key));
    }

pub invariant_of-self-in-Vacant : goal.invariant_of-self-in-Vacant
invariant_of-self-in-Vacant g c =
    let calls = c.args.self.now in
    let n = length calls.left.links.items in
    record {
      within = within_after calls.by_key.entries _ c.args.key c.insert.result.now (search rules) n n calls.within (omega arith)
          (subst (λ (k : KnownCall g.row.A.Denot). k.chain ≤ n) (sym c.insert.ensures.value) (omega arith));
    }

pub returns-in_err-add-in-Occupied-clause-err : goal.returns-in_err-add-in-Occupied-clause-err
returns-in_err-add-in-Occupied-clause-err g c =
    at_error c.from_residual-in_err-add-in-Occupied.result
    (all_after call_eq sites_if_any c.args.self.now.by_key.entries _ c.args.key
    (record c.into_mut-known.result.now { sites = c.add.new.self }) (search rules) laws-law
    (c.in_err-add-in-Occupied.ensures.err
    ∙ ap sites_if_any (was g (goal.at.returns-in_err-add-in-Occupied-clause-err g c).After-add)))

pub returns-in_err-add-in-Occupied-clause-summaries : goal.returns-in_err-add-in-Occupied-clause-summaries
returns-in_err-add-in-Occupied-clause-summaries g c =
    all_after call_eq (λ o. chain_of c.args.self.now.left.links.items (chain_if_any o)) c.args.self.now.by_key.entries _ c.args.key
    (record c.into_mut-known.result.now { sites = c.add.new.self }) (search rules) laws-law
    (ap (λ o. chain_of c.args.self.now.left.links.items (chain_if_any o))
    (was g (goal.at.returns-in_err-add-in-Occupied-clause-summaries g c).After-add))

pub returns-in_ok-add-in-Occupied-clause-summaries : goal.returns-in_ok-add-in-Occupied-clause-summaries
returns-in_ok-add-in-Occupied-clause-summaries g c =
    all_after call_eq (λ o. chain_of c.args.self.now.left.links.items (chain_if_any o)) c.args.self.now.by_key.entries _ c.args.key
    (record c.into_mut-known.result.now { sites = c.add.new.self }) (search rules) laws-law
    (ap (λ o. chain_of c.args.self.now.left.links.items (chain_if_any o))
    (was g (goal.at.returns-in_ok-add-in-Occupied-clause-summaries g c).After-add))

pub returns-in_ok-add-in-Occupied-clause-keys : goal.returns-in_ok-add-in-Occupied-clause-keys
returns-in_ok-add-in-Occupied-clause-keys g c =
    keys_after call_eq c.args.self.now.by_key.entries _ c.args.key
    (record c.into_mut-known.result.now { sites = c.add.new.self }) (search rules)

pub returns-in_ok-add-in-Occupied-clause-at : goal.returns-in_ok-add-in-Occupied-clause-at
returns-in_ok-add-in-Occupied-clause-at g c =
    place_after call_eq c.args.self.now.by_key.entries _ c.args.key
    (record c.into_mut-known.result.now { sites = c.add.new.self }) (search rules)
    laws-law.refl c.index-at.result (c.index-at.ensures ∙ c.in_ok-entry.ensures.index)

pub returns-in-Vacant-clause-keys : goal.returns-in-Vacant-clause-keys
returns-in-Vacant-clause-keys g c =
    keys_after call_eq c.args.self.now.by_key.entries _ c.args.key c.insert.result.now (search rules)

pub returns-in-Vacant-clause-at : goal.returns-in-Vacant-clause-at
returns-in-Vacant-clause-at g c =
    place_after call_eq c.args.self.now.by_key.entries _ c.args.key c.insert.result.now (search rules)
    laws-law.refl c.index-at.result (c.index-at.ensures ∙ c.in_ok-entry.ensures.index)

pub returns-in-Vacant-clause-summaries : goal.returns-in-Vacant-clause-summaries
unfolding entry_value
returns-in-Vacant-clause-summaries g c =
    let told : Option (KnownCall g.row.A.Denot) → List Exit = λ o. chain_of c.args.self.now.left.links.items (chain_if_any o) in
    all_after call_eq told c.args.self.now.by_key.entries _ c.args.key c.insert.result.now (search rules) laws-law
    (ap (λ k. told (Some k)) c.insert.ensures.value
    ∙ ap told (sym (ap entry_value c.in-Vacant.is) ∙ c.in_ok-entry.ensures.value))

pub returns-in_ok-add-in-Occupied-clause-added : goal.returns-in_ok-add-in-Occupied-clause-added
returns-in_ok-add-in-Occupied-clause-added g c =
    added_after call_eq sites_if_any c.args.self.now.by_key.entries _ c.args.key
    (record c.into_mut-known.result.now { sites = c.add.new.self }) (search rules) (laws-law.refl c.args.key) _
    (c.in_ok-add-in-Occupied.ensures.ok
    ∙ ap (λ o. sites_if_any o ++ c.args.site ∷ []) (was g (goal.at.returns-in_ok-add-in-Occupied-clause-added g c).After-add))

pub returns-in_ok-add-in-Occupied-clause-others : goal.returns-in_ok-add-in-Occupied-clause-others
returns-in_ok-add-in-Occupied-clause-others g c =
    others_after call_eq sites_if_any c.args.self.now.by_key.entries _ c.args.key
    (record c.into_mut-known.result.now { sites = c.add.new.self }) (search rules)

pub returns-in-Vacant-clause-others : goal.returns-in-Vacant-clause-others
returns-in-Vacant-clause-others g c =
    others_after call_eq sites_if_any c.args.self.now.by_key.entries _ c.args.key c.insert.result.now (search rules)

pub returns-in_ok-add-in-Occupied-clause-none : goal.returns-in_ok-add-in-Occupied-clause-none
returns-in_ok-add-in-Occupied-clause-none g c =
    if_empty c.is_empty-had.result c.as_slice.result.now (sites_of c.args.self.now c.args.key) c.is_empty-had.ensures
    (c.as_slice.ensures ∙ ap sites_if_any (was g (goal.at.returns-in_ok-add-in-Occupied-clause-none g c).After-add))
