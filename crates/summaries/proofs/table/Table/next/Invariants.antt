use Rattle.std.proofs.Common.{◌≡◌, None}
use Rattle.summaries.specs.Tables.{answers_of, IsTable, TookSame, StaysAs, work_left}
use Rattle.summaries.proofs.table.Table.next.Given as goal

abbrev pub invariant-work : goal.invariant-work
invariant-work g l =
    IsTable g.S.PathSet.members l.self × (l.self.fault ≡ None) × TookSame l.initial.self.found l.self.found ×
    (answers_of l.self ≡ answers_of l.initial.self)
    × StaysAs l.initial.self l.self

abbrev pub decreases-work : goal.decreases-work
decreases-work g l = work_left g.S.PathSet.members l.self
