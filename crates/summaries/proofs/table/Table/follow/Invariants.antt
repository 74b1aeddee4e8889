use Rattle.std.proofs.Common.{◌≡◌, ◌≤◌, length}
use Rattle.language.specs.Lists.{Member}
use Rattle.summaries.specs.Grows.{triple_of}
use Rattle.summaries.specs.Tables.{answers_of, limit_of, Holds, IsNoMore, TookSame, StaysAs, work_left}
use Rattle.summaries.proofs.table.Table.follow.Given as goal

abbrev pub invariant-edges : goal.invariant-edges
invariant-edges g l =
    Holds g.S.PathSet.members (λ t. t ≡ triple_of l.edge) l.self × Member (triple_of l.edge) (g.S.PathSet.members l.self.edges)
    × (length (g.S.PathSet.members l.self.edges) ≤ limit_of l.self) × TookSame l.initial.self.found l.self.found
    × (answers_of l.self ≡ answers_of l.initial.self) × StaysAs l.initial.self l.self × (l.self.fault ≡ l.initial.self.fault)
    × IsNoMore g.S.PathSet.members l.initial.self l.self

abbrev pub decreases-edges : goal.decreases-edges
decreases-edges g l = work_left g.S.PathSet.members l.self
