use Rattle.std.proofs.Common.{◌≡◌, ◌≤◌, ◌++◌, ◌∷◌, [], length, length-append, refl, sym, ap, ◌∙◌, subst, arith, rules}
use Rattle.std.specs.Map.{lookup}
use Rattle.path_sets.proofs.InsertsLemmas.{at_error}
use Rattle.indexmap.specs.Entry.{entry_value}
use Rattle.summaries.specs.declared.calls.KnownCall.{KnownCall}
use Rattle.groups.specs.Under.{values_in}
use Rattle.summaries.specs.Chains.{chain_of, link}
use Rattle.summaries.specs.Calls.{sites_of}
use Rattle.summaries.specs.KnownCalls.{call_eq, chain_if_any, sites_if_any}
use Rattle.summaries.specs.contracts.edge.CallKeyEq.TheImpl.Laws.{laws-law}
use Rattle.summaries.proofs.ChainLemmas.{chain_added, chain_older, within_after}
use Rattle.groups.proofs.GroupLemmas.{added_after, all_after, keys_after, lookup_after, of_unwrapped, others_after, place_after}
use Rattle.summaries.proofs.calls.Calls.add_summary.Given.{Over}
use Rattle.summaries.proofs.calls.Calls.add_summary.Goals as goal
use Rattle.summaries.proofs.calls.Calls.add_summary.Goals.{After-or_insert-known}

-- the sites are those that the call has
sites : (g : Over) (c : After-or_insert-known g) → values_in c.or_insert-known.result.now.sites ≡ sites_of c.args.self.now c.args.key
sites g c =
    let none : KnownCall g.row.A.Denot = record { sites = c.none.result; chain = 0 } in
    ap (λ (k : KnownCall g.row.A.Denot). values_in k.sites) c.or_insert-known.ensures.value
    ∙ of_unwrapped (sites_if_any {Alloc = g.row.A.Denot}) (entry_value c.in_ok-entry.entry) none c.none.ensures
    ∙ ap (sites_if_any {Alloc = g.row.A.Denot}) c.in_ok-entry.ensures.value

-- and so is the chain
chain : (g : Over) (c : After-or_insert-known g)
    → c.or_insert-known.result.now.chain ≡ chain_if_any (lookup (call_eq c.args.key) c.args.self.now.by_key.entries)
chain g c =
    let none : KnownCall g.row.A.Denot = record { sites = c.none.result; chain = 0 } in
    ap (λ (k : KnownCall g.row.A.Denot). k.chain) c.or_insert-known.ensures.value
    ∙ of_unwrapped (chain_if_any {Alloc = g.row.A.Denot}) (entry_value c.in_ok-entry.entry) none refl
    ∙ ap (chain_if_any {Alloc = g.row.A.Denot}) c.in_ok-entry.ensures.value

pub add-requires : goal.add-requires
add-requires g c =
    let calls = c.args.self.now in
    subst (λ n. n ≤ length calls.left.links.items) (sym (chain g (goal.at.add-requires g c).After-or_insert-known))
    (calls.within c.args.key)

pub invariant_of-self-in-Break-branch-2 : goal.invariant_of-self-in-Break-branch-2
invariant_of-self-in-Break-branch-2 g c =
    let calls = c.args.self.now in
    let known = chain g (goal.at.invariant_of-self-in-Break-branch-2 g c).After-or_insert-known in
    let same = ap length c.in_err-known.ensures.err in
    let within = calls.within c.args.key in
    record {
      within = within_after calls.by_key.entries _ c.args.key c.or_insert-known.result.now (lookup_after laws-law _ _ _ _ (search rules))
          (length calls.left.links.items) (length c.add.new.self.links.items) calls.within
          (omega (arith, same)) (omega (arith, same, known, within));
    }

pub returns-in_err-known-clause-err : goal.returns-in_err-known-clause-err
returns-in_err-known-clause-err g c =
    let links = c.args.self.now.left.links.items in
    at_error c.from_residual-in_err-known.result
    (all_after call_eq (λ o. chain_of c.add.new.self.links.items (chain_if_any o)) c.args.self.now.by_key.entries _ c.args.key
    c.or_insert-known.result.now (lookup_after laws-law _ _ _ _ (search rules)) laws-law
    (ap (chain_of c.add.new.self.links.items) (chain g (goal.at.returns-in_err-known-clause-err g c).After-or_insert-known))
    ∙ λ i k. chain_of (c.in_err-known.ensures.err i) (chain_if_any (lookup (call_eq k) c.args.self.now.by_key.entries)))

pub returns-in_err-known-clause-sites : goal.returns-in_err-known-clause-sites
returns-in_err-known-clause-sites g c =
    all_after call_eq sites_if_any c.args.self.now.by_key.entries _ c.args.key c.or_insert-known.result.now (lookup_after laws-law _ _ _ _ (search rules)) laws-law
    (sites g (goal.at.returns-in_err-known-clause-sites g c).After-or_insert-known)

pub invariant_of-self-2 : goal.invariant_of-self-2
invariant_of-self-2 g c =
    let calls = c.args.self.now in
    let end = c.in_ok-known.ensures.chain in
    let longer = ap length c.in_ok-known.ensures.ok ∙ length-append calls.left.links.items _ in
    record {
      within = within_after calls.by_key.entries _ c.args.key
          (record c.or_insert-known.result.now { chain = c.in_ok-known.field-0 }) (lookup_after laws-law _ _ _ _ (search rules))
          (length calls.left.links.items) (length c.add.new.self.links.items) calls.within
          (omega (arith, longer)) (omega (arith, end));
    }

pub returns-clause-at : goal.returns-clause-at
returns-clause-at g c =
    place_after call_eq c.args.self.now.by_key.entries _ c.args.key
    (record c.or_insert-known.result.now { chain = c.in_ok-known.field-0 }) (search rules)
    laws-law.refl c.index-at.result (c.index-at.ensures ∙ c.in_ok-entry.ensures.index)

pub returns-clause-keys : goal.returns-clause-keys
returns-clause-keys g c =
    keys_after call_eq c.args.self.now.by_key.entries _ c.args.key
    (record c.or_insert-known.result.now { chain = c.in_ok-known.field-0 }) (search rules)

pub returns-clause-added : goal.returns-clause-added
returns-clause-added g c =
    let links = c.args.self.now.left.links.items in
    let more = c.add.new.self.links.items in
    let last = link c.args.exit c.or_insert-known.result.now.chain in
    added_after call_eq (λ o. chain_of more (chain_if_any o)) c.args.self.now.by_key.entries _ c.args.key
    (record c.or_insert-known.result.now { chain = c.in_ok-known.field-0 }) (lookup_after laws-law _ _ _ _ (search rules)) (laws-law.refl c.args.key) _
    (chain_added links more last c.in_ok-known.ensures.ok c.in_ok-known.field-0 c.in_ok-known.ensures.chain
    ∙ ap (λ n. chain_of links n ++ c.args.exit ∷ []) (chain g (goal.at.returns-clause-added g c).After-or_insert-known))

pub returns-clause-others : goal.returns-clause-others
returns-clause-others g c = λ other apart.
    let calls = c.args.self.now in
    let more = c.add.new.self.links.items in
    let last = link c.args.exit c.or_insert-known.result.now.chain in
    others_after call_eq (λ o. chain_of more (chain_if_any o)) calls.by_key.entries _ c.args.key
    (record c.or_insert-known.result.now { chain = c.in_ok-known.field-0 }) (lookup_after laws-law _ _ _ _ (search rules)) other apart
    ∙ chain_older calls.left.links.items more last c.in_ok-known.ensures.ok _ (calls.within other)

pub returns-clause-sites : goal.returns-clause-sites
returns-clause-sites g c =
    all_after call_eq sites_if_any c.args.self.now.by_key.entries _ c.args.key
    (record c.or_insert-known.result.now { chain = c.in_ok-known.field-0 }) (lookup_after laws-law _ _ _ _ (search rules)) laws-law
    (sites g (goal.at.returns-clause-sites g c).After-or_insert-known)
