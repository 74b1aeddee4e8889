use Rattle.std.proofs.Common.{◌≡◌, ◌++◌, List}
use Rattle.flow_graph.specs.declared.exit.Exit.{Exit}
use Rattle.summaries.specs.Chains.{chain_of}
use Rattle.summaries.specs.Grows.{Grows, OfSome, IsBehind}
use Rattle.summaries.specs.Frontiers.{IsWithin, StaysFrontier}
use Rattle.summaries.proofs.frontier.Frontier.resume_site.Given as goal

abbrev pub invariant-links : goal.invariant-links
invariant-links g l =
    let links = l.calls.left.links.items in
    ((done : List Exit) × (chain_of links l.chain ++ done ≡ chain_of links l.initial.chain)
    × Grows (OfSome (IsBehind l.graph l.site) done) (g.S.PathSet.members l.initial.self.edges.now)
    (g.S.PathSet.members l.self.edges.now) l.initial.self.pending.now.items l.self.pending.now.items)
    × IsWithin g.S.PathSet.members l.self × StaysFrontier l.initial.self l.self

abbrev pub decreases-links : goal.decreases-links
decreases-links g l = l.chain
