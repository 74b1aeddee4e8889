use Rattle.std.proofs.Common.{◌∷◌, [], length, ap, length-append, arith}
use Rattle.summaries.specs.Chains.{link}
use Rattle.summaries.proofs.ChainLemmas.{lead_back_after}
use Rattle.summaries.proofs.chains.Chains.add.Goals as goal

pub invariant_of-self : goal.invariant_of-self
invariant_of-self g c = record {
  back = lead_back_after c.append.result c.args.self.now.links.items c.append.new.list.items (link c.args.exit c.args.chain)
      c.append.ensures.ok c.append.ensures.err c.args.self.now.back c.requires;
}

pub returns-clause-chain : goal.returns-clause-chain
returns-clause-chain g c =
    let links = c.args.self.now.links.items in
    let added = c.in_ok-added.ensures.same in
    let grown = ap length c.in_ok-append.ensures.ok in
    let longer = length-append links (link c.args.exit c.args.chain ∷ []) in
    omega (arith, added, grown, longer)
