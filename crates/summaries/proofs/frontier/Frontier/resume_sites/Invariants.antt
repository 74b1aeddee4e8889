use Rattle.std.proofs.Common.{take}
use Rattle.summaries.specs.Grows.{Grows, OfSome, IsBehind}
use Rattle.summaries.specs.Frontiers.{IsWithin, StaysFrontier}
use Rattle.summaries.proofs.frontier.Frontier.resume_sites.Given as goal

abbrev pub invariant-loop-site : goal.invariant-loop-site
invariant-loop-site g l =
    Grows (OfSome (λ site. IsBehind l.graph site l.left) (take l.site-index l.sites)) (g.S.PathSet.members l.initial.self.edges.now)
    (g.S.PathSet.members l.self.edges.now) l.initial.self.pending.now.items l.self.pending.now.items
    × IsWithin g.S.PathSet.members l.self × StaysFrontier l.initial.self l.self
