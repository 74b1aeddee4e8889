use Rattle.std.proofs.Common.{◌≡◌, ◌-◌, IfNone, [], ◌∷◌, ◌++◌, Some, length, slice_get, refl, sym, ap, ◌∙◌, subst, arith}
use Rattle.std.proofs.lemmas.Option.{slice_get_read}
use Rattle.summaries.specs.Chains.{chain_of}
use Rattle.summaries.proofs.ChainLemmas.{chain_none, chain_past, chain_at}
use Rattle.summaries.proofs.chains.Chains.last.Given.{Over}
use Rattle.summaries.proofs.chains.Chains.last.Goals as goal
use Rattle.summaries.proofs.chains.Chains.last.Goals.{In_ok-link}

-- the link that was read is that at the index
here : (g : Over) (c : In_ok-link g) → slice_get c.args.self.now.links.items (c.args.chain - 1) ≡ Some c.in_ok-link.link.now
here g c =
    let (below, is, same, within, rest) = c.in_ok-link.ensures.lookup in
    subst (λ l. slice_get l (c.args.chain - 1) ≡ Some c.in_ok-link.link.now) c.deref.ensures.value
    (slice_get_read c.deref.result.now (length c.deref.result.now) (c.args.chain - 1) c.in_ok-link.link.now refl within.0 is)

pub returns-then-chain-eq0-clause-none : goal.returns-then-chain-eq0-clause-none
returns-then-chain-eq0-clause-none g c = chain_none c.args.self.now.links.items c.args.chain c.if-chain-eq0.true

pub returns-in_err-link-clause-none : goal.returns-in_err-link-clause-none
returns-in_err-link-clause-none g c =
    let past = c.in_err-link.ensures.lookup.3 in
    let not_none = c.if-chain-eq0.false in
    let size = ap length c.deref.ensures.value in
    subst (λ r. IfNone r (chain_of c.args.self.now.links.items c.args.chain ≡ [])) (sym c.from_residual.ensures)
    (chain_past c.args.self.now.links.items c.args.chain (omega (arith, past, not_none, size)))

pub returns-clause-some : goal.returns-clause-some
returns-clause-some g c =
    let not_none = c.if-chain-eq0.false in
    chain_at c.args.self.now.links.items (c.args.chain - 1) c.in_ok-link.link.now c.args.chain c.args.self.now.back
    (here g (goal.at.returns-clause-some g c).In_ok-link) (omega (arith, not_none))
    ∙ ap (λ l. chain_of c.args.self.now.links.items c.in_ok-link.link.now.before ++ l ∷ []) (sym c.exit.ensures)

pub returns-clause-before : goal.returns-clause-before
returns-clause-before g c =
    let not_none = c.if-chain-eq0.false in
    let back = c.args.self.now.back (c.args.chain - 1) c.in_ok-link.link.now
    (here g (goal.at.returns-clause-before g c).In_ok-link) in
    omega (arith, not_none, back)
