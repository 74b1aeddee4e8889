use Rattle.std.proofs.Common.{◌≡◌, ◌++◌, ◌∷◌, [], Err, refl, sym, ap, ◌∙◌, rules}
use Rattle.std.proofs.lemmas.List.{append-nil, append_assoc}
use Rattle.summaries.specs.Chains.{chain_of}
use Rattle.summaries.specs.Grows.{IsBehind, OfSome}
use Rattle.summaries.proofs.FrontierLemmas.{adds_none, back_done, back_failed, back_next, fault_of}
use Rattle.summaries.proofs.ReachLemmas.{still_within, reaches_on, stays_on}
use Rattle.summaries.proofs.frontier.Frontier.resume_site.Given.{Over}
use Rattle.summaries.proofs.frontier.Frontier.resume_site.Goals as goal
use Rattle.summaries.proofs.frontier.Frontier.resume_site.Goals.{In-Some}

-- the link is the last of those that are not done
whole : (g : Over) (c : In-Some g) → let links = c.args.calls.now.left.links.items in
    chain_of links c.in-Some.before ++ c.in-Some.left ∷ c.links.invariant.0.0 ≡ chain_of links c.args.chain
whole g c =
    sym (append_assoc (chain_of c.args.calls.now.left.links.items c.in-Some.before) (c.in-Some.left ∷ []) c.links.invariant.0.0)
    ∙ ap (λ l. l ++ c.links.invariant.0.0) (sym c.in-Some.ensures.some) ∙ c.links.invariant.0.1

pub links-init : goal.links-init
links-init g c = (
  ([], append-nil _, (adds_none (OfSome (IsBehind c.args.graph.now c.args.site) []) _ _ _ (λ t some. absurd some.1) c.requires).ok),
  c.requires,
  record { edges = refl; pending = refl; limit = refl },
)

pub links-preserved : goal.links-preserved
links-preserved g c = (
  (
    c.in-Some.left ∷ c.links.invariant.0.0,
    whole g (goal.at.links-preserved g c).In-Some,
    back_next (IsBehind c.args.graph.now c.args.site) _ _ c.in-Some.left c.links.invariant.0.0
        (whole g (goal.at.links-preserved g c).In-Some) _ _ _ _ c.links.invariant.0.2 _ _ c.in_ok-reach_after_call.ensures.adds.ok,
  ),
  still_within g.S.PathSet.members c.in_ok-reach_after_call.ensures,
  stays_on c.links.invariant.2 c.in_ok-reach_after_call.ensures.stays,
)

pub returns-in_err-reach_after_call : goal.returns-in_err-reach_after_call
returns-in_err-reach_after_call g c =
    reaches_on g.S.PathSet.members c.links.invariant.2 c.in_err-reach_after_call.ensures.stays
    (back_failed (IsBehind c.args.graph.now c.args.site) (chain_of c.args.calls.now.left.links.items c.args.chain)
    (chain_of c.args.calls.now.left.links.items c.in-Some.before) c.in-Some.left c.links.invariant.0.0
    (whole g (goal.at.returns-in_err-reach_after_call g c).In-Some) (g.S.PathSet.members c.args.self.now.edges.now)
    (g.S.PathSet.members c.links.self.edges.now) c.args.self.now.pending.now.items c.links.self.pending.now.items
    c.links.invariant.0.2 (g.S.PathSet.members c.reach_after_call.new.self.edges.now) c.reach_after_call.new.self.pending.now.items
    c.in_err-reach_after_call.ensures.adds (search rules)
    (λ e. ap Err (sym (fault_of _ _ _ c.from_residual.ensures.1 e))))

pub returns : goal.returns
returns g c =
    reaches_on g.S.PathSet.members c.links.invariant.2 (record { edges = refl; pending = refl; limit = refl })
    (back_done (IsBehind c.args.graph.now c.args.site) _ (chain_of c.args.calls.now.left.links.items c.links.chain) c.links.invariant.0.0
    _ _ _ _ _ c.in_default.ensures.none c.links.invariant.0.1 c.links.invariant.0.2 c.links.invariant.1)
